use Rattle.std.proofs.Common.{◌≡◌, Some, None, map, slice_get, sym, ap, ◌∙◌}
use Rattle.elem_store.specs.inner.Fronts.{front_at}
use Rattle.elem_store.proofs.Fronts.{front-there, front-none}
use Rattle.elem_store.proofs.shelf.Shelf.front.Goals as goal

pub returns-in-Some : goal.returns-in-Some
returns-in-Some c =
    rw (← c.self.view_is) (front-there c.self.inside.elements.items c.args.place c.in-Some.front
    (ap (λ fronts. slice_get fronts c.args.place) (sym c.self.invariant) ∙ sym c.front_at.ensures ∙ c.in-Some.is))

pub returns-in-None : goal.returns-in-None
returns-in-None c =
    rw (← c.self.view_is) (front-none c.self.inside.elements.items c.args.place
    (ap (λ fronts. slice_get fronts c.args.place) (sym c.self.invariant) ∙ sym c.front_at.ensures ∙ c.in-None.is))
