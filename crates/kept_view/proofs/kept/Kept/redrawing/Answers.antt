use Rattle.std.proofs.Common.{◌≡◌, ℕ, Some, sym, ◌∙◌, subst, List}
use Rattle.std.specs.Prelude.{slice_get}
use Rattle.elem.specs.ElementValue.{ElementValue}
use Rattle.kept_view.specs.inner.Changes.{outline, IsRedrawn}
use Rattle.kept_view.proofs.Redrawn.{at_place, same_kind, IsRedrawn-from}
use Rattle.kept_view.proofs.kept.Kept.redrawing.Goals as goal
use Rattle.kept_view.proofs.kept.Kept.redrawing.Goals.{After-index}

record IsFound (live elements : List ElementValue) (new old s : ElementValue) (held_at shown_at : ℕ) : Type 0 where
  held : slice_get live held_at ≡ Some old
  one : outline old ≡ outline new
  at' : slice_get elements shown_at ≡ Some s
  same : s.id ≡ new.id

found : (c : After-index) → IsFound c.self.inside.live.items c.self.inside.shown.items c.args.new.now
    c.index-old.result.now c.index.result.now c.in-Ok.held_at c.in-Some.shown_at
found c =
    let old = at_place (λ e. e.id ≡ c.new.inside.id) c.self.inside.live.items c.in-Ok.held_at c.index-old.result.now
    c.in-Ok.ensures.found c.index-old.ensures in
    let s = at_place (λ e. e.id ≡ c.args.new.now.id) c.self.inside.shown.items c.in-Some.shown_at c.index.result.now
    c.in-Some.ensures c.index.ensures in
    record { held = old.0; one = c.in_ok-have_one_outline.ensures c.if-not-branch.false; at' = s.0; same = s.1 }

pub redrawn-requires-clause-id : goal.redrawn-requires-clause-id
redrawn-requires-clause-id c = sym (found c).same

pub redrawn-requires-clause-kind : goal.redrawn-requires-clause-kind
redrawn-requires-clause-kind c =
    let f = found c in
    same_kind c.self.inside.live.items c.self.inside.shown.items c.args.new.now c.index-old.result.now
    c.index.result.now c.in-Ok.held_at c.in-Some.shown_at
    c.self.invariant.view f.held f.one f.at' f.same

pub returns : goal.returns
returns c =
    let f = found (goal.at.returns c).After-index in (
      c.in_ok-held.ensures,
      subst (λ live. IsRedrawn live c.args.new.now c.in-Ok.held_at c.in-Some.shown_at c.in_ok-shown.shown)
          c.self.view_is
          (IsRedrawn-from c.self.inside.live.items c.self.inside.shown.items c.args.new.now c.index-old.result.now
          c.index.result.now c.in_ok-shown.shown c.in-Ok.held_at c.in-Some.shown_at
          c.self.invariant.view f.held f.one f.at' f.same (c.in_ok-shown.ensures ∙ c.in_ok-redrawn.ensures)),
    )
