use Rattle.kept_view.proofs.UnsettledLaws.{kept-more}
use Rattle.kept_view.proofs.unsettled.add.Goals as goal

pub returns-clause-kept : goal.returns-clause-kept
returns-clause-kept c =
    kept-more c.args.ids.now c.insert.new.self c.in_ok-try_clone.field-0 c.in_ok-insert.ensures.updates.0
