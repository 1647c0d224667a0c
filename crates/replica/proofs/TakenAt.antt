-- What is stored of each id once elements of rising ids were taken.
use Rattle.std.proofs.Common.{◌≡◌, ℕ, true, cond, ◌&&◌, List, [], ◌∷◌, Some, None, Contains, inl, inr, refl, sym, ap, ◌∙◌, subst, arith}
use Rattle.std.proofs.lemmas.Bool.{and_parts, and_from, cond-true}
use Rattle.frac_keys.specs.Rising.{ends_rise, rise_between, are_rising}
use Rattle.elem.specs.ElementValue.{ElementValue}
use Rattle.elem.specs.Order.{has_id}
use Rattle.elem_store.specs.Updates.{element_of, ids_of, is_newer, is_taken}
use Rattle.elem_store.proofs.CallerLemmas.{of_itself, of_other, Contains-head, Contains-cons, Contains-cases, less-other}
use Rattle.delta.proofs.CallerLemmas.{later_greater}
use Rattle.undo_model.specs.Carrying.{taken, taken_all}
use Rattle.undo_model.proofs.CallerLemmas.{taken-has}
use Rattle.frac_keys.proofs.CallerLemmas.{rise_between-lower}

-- the others stay
one-else : (stored : List ElementValue) (e : ElementValue) (id : List ℕ) → are_rising (ids_of stored) ≡ true
    → (e.id ≡ id → ⊥) → element_of (taken e stored) id ≡ element_of stored id
one-else stored e id rise apart =
    (taken-has stored e rise).each id
    ∙ ap (λ b. cond (b && is_taken stored e) (Some e) (element_of stored id)) (of_other id e (λ same. apart (sym same)))

pub taken-else : (stored list : List ElementValue) (id : List ℕ) → are_rising (ids_of stored) ≡ true
    → ((e : ElementValue) → Contains list e → e.id ≡ id → ⊥)
    → element_of (taken_all list stored) id ≡ element_of stored id
taken-else stored [] id rise apart = refl
taken-else stored (e ∷ list) id rise apart =
    taken-else (taken e stored) list id (taken-has stored e rise).ordered (λ x c. apart x (Contains-cons e list x c))
    ∙ one-else stored e id rise (apart e (Contains-head e list))

-- the ids behind the first one are others
behind : (e : ElementValue) (list : List ElementValue) (x : ElementValue) → are_rising (ids_of (e ∷ list)) ≡ true
    → Contains list x → e.id ≡ x.id → ⊥
behind e list x rise c same = less-other e.id x.id (later_greater (λ (x : ElementValue). x.id) [] e list x rise c) same

rest-rising : (e : ElementValue) (list : List ElementValue) → are_rising (ids_of (e ∷ list)) ≡ true
    → are_rising (ids_of list) ≡ true
rest-rising e list rise =
    rise_between-lower None e.id (ids_of list) refl
    (and_parts (ends_rise None (Some e.id)) (rise_between (Some e.id) None (ids_of list)) rise).1

-- each that is taken is stored
pub taken-at : (stored list : List ElementValue) (e : ElementValue) → are_rising (ids_of stored) ≡ true
    → are_rising (ids_of list) ≡ true
    → ((x : ElementValue) → Contains list x → is_taken stored x ≡ true) → Contains list e
    → element_of (taken_all list stored) e.id ≡ Some e
taken-at stored [] e rise ordered all c = absurd (omega (arith, c.1))
taken-at stored (x ∷ list) e rise ordered all c = elim (Contains-cases x list e c) [
  | inl same ↦
      subst (λ (y : ElementValue). element_of (taken_all list (taken x stored)) y.id ≡ Some y) same
      (taken-else (taken x stored) list x.id (taken-has stored x rise).ordered
      (λ y d is. behind x list y ordered d (sym is))
      ∙ (taken-has stored x rise).each x.id
      ∙ cond-true (has_id x.id x && is_taken stored x) (Some x) (element_of stored x.id)
      (and_from (has_id x.id x) (is_taken stored x) (of_itself x) (all x (Contains-head x list))))
  | inr later ↦
      taken-at (taken x stored) list e (taken-has stored x rise).ordered (rest-rising x list ordered)
      (λ y d. ap (is_newer y) (one-else stored x y.id rise (behind x list y ordered d))
      ∙ all y (Contains-cons x list y d)) later
]
