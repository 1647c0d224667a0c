-- The element at the place that was read, if there is one.
use Rattle.std.proofs.Common.{slice_get, option_and_then, sym, ap, ◌∙◌}
use Rattle.frac_keys.specs.Rising.{are_rising}
use Rattle.elem_store.proofs.Placed.{get-at}
use Rattle.elem_store.specs.Stock.{Held}
use Rattle.elem_store.specs.Updates.{ids_of}
use Rattle.elem_store.proofs.store.Store.at.Goals as goal

pub returns-in_err-place-clause-element : goal.returns-in_err-place-clause-element
returns-in_err-place-clause-element c =
    let s = c.self.inside in
    let none = get-at s.elements.items s.places.places c.args.i c.self.invariant.within
    ∙ ap (option_and_then (slice_get s.elements.items)) (sym c.in_err-place.ensures) in
    rw c.from_residual.ensures (sym none ∙ ap (λ (s : Held). slice_get s.elements c.args.i) c.self.view_is)

pub returns-clause-element : goal.returns-clause-element
returns-clause-element c =
    let s = c.self.inside in
    let some = get-at s.elements.items s.places.places c.args.i c.self.invariant.within
    ∙ ap (option_and_then (slice_get s.elements.items)) (sym c.in_ok-place.ensures) in
    c.get-2.ensures.element ∙ sym some ∙ ap (λ (s : Held). slice_get s.elements c.args.i) c.self.view_is

pub returns-in_err-place-clause-ordered : goal.returns-in_err-place-clause-ordered
returns-in_err-place-clause-ordered c =
    ap (λ (s : Held). are_rising (ids_of s.elements)) (sym c.self.view_is) ∙ c.self.invariant.ordered

pub returns-clause-ordered : goal.returns-clause-ordered
returns-clause-ordered c =
    ap (λ (s : Held). are_rising (ids_of s.elements)) (sym c.self.view_is) ∙ c.self.invariant.ordered
