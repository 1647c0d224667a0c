use Rattle.kept_view.proofs.UnsettledLaws.{both-less}
use Rattle.kept_view.proofs.unsettled.forget.Goals as goal

pub returns : goal.returns
returns c = λ live drawn is.
    both-less c.args.unsettled.now _ c.args.id.now live drawn c.remove.ensures.updates.0 c.remove-2.ensures.updates.0 is
