use Rattle.std.proofs.Common.{sym, ap, ◌∙◌, map, subst}
use Rattle.kept_view.specs.inner.Changes.{redrawn_as, IsRedrawn}
use Rattle.kept_view.proofs.LiveLaws.{rows-redrawn}
use Rattle.kept_view.proofs.Redrawn.{IsView-put, held-redrawn, shown-redrawn_at}
use Rattle.kept_view.proofs.UnsettledLaws.{others-redrawn}
use Rattle.kept_view.proofs.kept.Kept.redraw.Goals as goal

is : (c : goal.After-replace-2) → IsRedrawn c.self.inside.live.items c.args.redrawing.held c.args.redrawing.held_at
    c.args.redrawing.shown_at c.args.redrawing.shown
is c = subst (λ live. IsRedrawn live c.args.redrawing.held c.args.redrawing.held_at c.args.redrawing.shown_at
    c.args.redrawing.shown) (sym c.self.view_is) c.requires

pub invariant_of-self : goal.invariant_of-self
invariant_of-self c = rw (c.replace.ensures.items, c.replace-2.ensures.items) (record {
  view = IsView-put _ _ _ _ _ _ c.self.invariant.view (is c);
  table = rw (held-redrawn _ c.self.inside.shown.items _ _ _ _ c.self.invariant.view (is c))
      (rows-redrawn c.args.redrawing.held c.self.inside.live.items c.self.inside.table.rows c.self.invariant.table);
  noted = rw (
    held-redrawn _ c.self.inside.shown.items _ _ _ _ c.self.invariant.view (is c),
    shown-redrawn_at _ c.self.inside.shown.items _ _ _ _ c.self.invariant.view (is c),
  )
      (others-redrawn c.args.redrawing.held c.self.inside.live.items c.self.inside.shown.items c.self.inside.unsettled
      c.self.invariant.noted);
})

pub returns : goal.returns
returns c =
    c.replace.ensures.items ∙ (held-redrawn _ c.self.inside.shown.items _ _ _ _ c.self.invariant.view (is c)
    ∙ ap (map (redrawn_as c.args.redrawing.held)) c.self.view_is)
