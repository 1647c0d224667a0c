use Rattle.std.proofs.Common.{ap, ◌∙◌, map}
use Rattle.elem.specs.ElementValue.{ElementValue}
use Rattle.kept_view.specs.inner.Changes.{redrawn_as}
use Rattle.kept_view.proofs.Redrawn.{HasRedrawn-from}
use Rattle.kept_view.proofs.kept.Kept.redraw_as.Goals as goal

pub returns-clause-new : goal.returns-clause-new
returns-clause-new c ok =
    let r = c.in-Some.redrawing in
    let found = rw c.in-Some.is at c.in_ok-redrawing.ensures in
    HasRedrawn-from c.args.self.now c.redraw.new.self c.args.new.now r.held_at r.shown_at r.shown found.1
    (c.redraw.ensures ∙ ap (λ (e : ElementValue). map (redrawn_as e) c.args.self.now) found.0)
