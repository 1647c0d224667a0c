-- There are as many elements as places.
use Rattle.std.proofs.Common.{length, sym, ap, ◌∙◌}
use Rattle.frac_keys.specs.Rising.{are_rising}
use Rattle.elem_store.specs.Stock.{Held}
use Rattle.elem_store.specs.Updates.{ids_of}
use Rattle.elem_store.proofs.Placed.{length-at}
use Rattle.elem_store.proofs.store.Store.len.Goals as goal

pub returns-clause-exact : goal.returns-clause-exact
returns-clause-exact c =
    let s = c.self.inside in
    c.len.ensures ∙ sym (length-at s.elements.items s.places.places c.self.invariant.within)
    ∙ ap (λ (s : Held). length s.elements) c.self.view_is

pub returns-clause-ordered : goal.returns-clause-ordered
returns-clause-ordered c =
    ap (λ (s : Held). are_rising (ids_of s.elements)) (sym c.self.view_is) ∙ c.self.invariant.ordered
