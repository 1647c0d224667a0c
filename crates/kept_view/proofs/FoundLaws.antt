-- The element of an id, looked for one place after the other.
use Rattle.std.proofs.Common.{◌≡◌, ℕ, zero, suc, ◌<◌, true, false, cond, List, [], ◌∷◌, length, take, get_or, Some, None, sym, ap, ◌∙◌, inl, inr, arith}
use Rattle.std.proofs.lemmas.Bool.{cases_Bool, cond-true, cond-false}
use Rattle.elem.specs.ElementValue.{ElementValue}
use Rattle.elem.specs.Order.{has_id}
use Rattle.elem_store.specs.Updates.{element_of}

-- the element of an id is found where none was before
pub found-at : (es : List ElementValue) (i : ℕ) (e : ElementValue) (id : List ℕ) → element_of (take i es) id ≡ None
    → i < length es → e ≡ get_or es i e → has_id id e ≡ true → element_of es id ≡ Some e
found-at [] i e id none l is own = absurd (omega arith)
found-at (x ∷ es) zero e id none l is own = ap (λ y. cond (has_id id y) (Some y) (element_of es id)) (sym is)
    ∙ cond-true (has_id id e) (Some e) (element_of es id) own
found-at (x ∷ es) (suc i) e id none l is own = elim (cases_Bool (has_id id x)) [
  | inl h ↦ let never : Some x ≡ None =
      sym (cond-true (has_id id x) (Some x) (element_of (take i es) id) h) ∙ none in cc
  | inr h ↦
      let later : element_of (take i es) id ≡ None =
      sym (cond-false (has_id id x) (Some x) (element_of (take i es) id) h) ∙ none in
      cond-false (has_id id x) (Some x) (element_of es id) h ∙ found-at es i e id later (omega arith) is own
]

pub none-yet : (es : List ElementValue) (i : ℕ) (e : ElementValue) (id : List ℕ) → element_of (take i es) id ≡ None
    → i < length es → e ≡ get_or es i e → has_id id e ≡ false → element_of (take (suc i) es) id ≡ None
none-yet [] i e id none l is own = absurd (omega arith)
none-yet (x ∷ es) zero e id none l is own =
    ap (λ y. cond (has_id id y) (Some y) None) (sym is) ∙ cond-false (has_id id e) (Some e) None own
none-yet (x ∷ es) (suc i) e id none l is own = elim (cases_Bool (has_id id x)) [
  | inl h ↦ let never : Some x ≡ None =
      sym (cond-true (has_id id x) (Some x) (element_of (take i es) id) h) ∙ none in cc
  | inr h ↦
      let later : element_of (take i es) id ≡ None =
      sym (cond-false (has_id id x) (Some x) (element_of (take i es) id) h) ∙ none in
      cond-false (has_id id x) (Some x) (element_of (take (suc i) es) id) h
      ∙ none-yet es i e id later (omega arith) is own
]
