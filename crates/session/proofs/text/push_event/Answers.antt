use Rattle.session.proofs.TextLaws.{event-written}
use Rattle.session.proofs.text.push_event.Goals as goal

pub returns : goal.returns
returns c =
    event-written c.args.event.now c.args.out.now.items c.extend_from_slice.new.self.items c.push_whole.new.out.items
    c.push.new.self.items
    c.push_why.new.out.items c.push-2.new.self.items
    c.in_ok-extend_from_slice.ensures.items c.in_ok-push_whole.ensures.ok c.in_ok-push.ensures.items
    c.in_ok-push_why.ensures c.in_ok-push-2.ensures.items
