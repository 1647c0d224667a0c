use Rattle.session.proofs.TextLaws.{replica-written}
use Rattle.session.proofs.text.push_replica.Goals as goal

pub returns : goal.returns
returns c =
    replica-written c.args.report.now c.args.out.now.items c.extend_from_slice.new.self.items
    c.extend_from_slice-2.new.self.items c.push_number.new.out.items
    c.push_number-2.new.out.items c.push_number-3.new.out.items c.push_number-4.new.out.items
    c.push_number-5.new.out.items c.push.new.self.items c.as_slice.result.now
    c.in_ok-extend_from_slice.ensures.items c.in_ok-extend_from_slice-2.ensures.items c.as_slice.ensures
    c.in_ok-push_number.ensures c.in_ok-push_number-2.ensures
    c.in_ok-push_number-3.ensures c.in_ok-push_number-4.ensures c.in_ok-push_number-5.ensures c.in_ok-push.ensures.items
