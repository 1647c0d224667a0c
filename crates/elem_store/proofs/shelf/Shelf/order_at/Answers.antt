-- Fronts that differ decide.
use Rattle.std.proofs.Common.{◌≡◌, Some, Less, Greater, map, slice_get, sym, ap, ◌∙◌}
use Rattle.board_base.proofs.CallerLemmas.{not_less, not_greater}
use Rattle.elem_store.specs.inner.Fronts.{front_at}
use Rattle.elem_store.proofs.Fronts.{placed-decides}
use Rattle.elem_store.proofs.shelf.Shelf.order_at.Goals as goal
use Rattle.elem_store.proofs.shelf.Shelf.order_at.Goals.{In-Some}

there : (c : In-Some) → slice_get (map front_at c.self.inside.elements.items) c.args.place ≡ Some c.in-Some.known
there c = ap (λ fronts. slice_get fronts c.args.place) (sym c.self.invariant) ∙ sym c.front_at.ensures ∙ c.in-Some.is

pub returns-in-Less : goal.returns-in-Less
returns-in-Less c =
    rw (← c.self.view_is) (sym (placed-decides Less not_less _ c.args.place c.args.id.now c.in-Some.known
    (there (goal.at.returns-in-Less c).In-Some) (rw (← c.requires, ← c.bytes_order.ensures) c.in-Less.is)))

pub returns-in-Greater : goal.returns-in-Greater
returns-in-Greater c =
    rw (← c.self.view_is) (sym (placed-decides Greater not_greater _ c.args.place c.args.id.now c.in-Some.known
    (there (goal.at.returns-in-Greater c).In-Some) (rw (← c.requires, ← c.bytes_order.ensures) c.in-Greater.is)))
