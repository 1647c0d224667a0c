use Rattle.std.proofs.Common.{ap, ◌∙◌, Some, sym}
use Rattle.kept_view.proofs.UnsettledLaws.{shown-at}
use Rattle.kept_view.proofs.unsettled.shown_of.Goals as goal

pub returns : goal.returns
returns c =
    shown-at c.args.live.now.items c.args.shown.now.items c.requires c.args.e.now c.index.result.now c.in_ok-at.at
    c.in_ok-at.ensures c.index.ensures ∙ ap Some (sym c.get.ensures)
