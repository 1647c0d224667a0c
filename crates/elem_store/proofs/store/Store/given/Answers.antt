use Rattle.std.proofs.Common.{Contains, sym, ap, ◌∙◌, subst}
use Rattle.frac_keys.specs.Rising.{are_rising}
use Rattle.elem_store.specs.Stock.{Held}
use Rattle.elem_store.specs.Updates.{ids_of}
use Rattle.elem_store.proofs.Given.{given-stored, stored-given}
use Rattle.elem_store.proofs.store.Store.given.Goals as goal

pub returns-clause-stored : goal.returns-clause-stored
returns-clause-stored c e there =
    let s = c.self.inside in
    subst (λ (h : Held). Contains h.elements e) c.self.view_is
    (given-stored s.elements.items s.places.places c.self.invariant e
    (subst (λ (h : Held). Contains h.given e) (sym c.self.view_is) there))

pub returns-clause-all : goal.returns-clause-all
returns-clause-all c e there =
    let s = c.self.inside in
    subst (λ (h : Held). Contains h.given e) c.self.view_is
    (stored-given s.elements.items s.places.places c.self.invariant e
    (subst (λ (h : Held). Contains h.elements e) (sym c.self.view_is) there))

pub returns-clause-ordered : goal.returns-clause-ordered
returns-clause-ordered c =
    ap (λ (s : Held). are_rising (ids_of s.elements)) (sym c.self.view_is) ∙ c.self.invariant.ordered
