use Rattle.std.proofs.Common.{◌∙◌}
use Rattle.workload.proofs.MakingLaws.{drill-written}
use Rattle.workload.proofs.making.make_session.Goals as goal

pub returns : goal.returns
returns c =
    c.from_vec.ensures
    ∙ drill-written c.args.seed c.args.events c.in_ok-made.made c.new-out.result.items c.push_header.new.out.items
    c.push.new.self.items c.push_events.new.out.items c.push_last.new.out.items
    c.new-out.ensures.items c.in_ok-push_header.ensures c.in_ok-push.ensures.items c.in_ok-made.ensures.lines
    c.in_ok-push_last.ensures c.in_ok-made.ensures.made
