-- Lists of elements whose ids are the same and which have the same element of each id are the same.
use Rattle.std.proofs.Common.{◌≡◌, ℕ, false, List, [], ◌∷◌, Some, None, bytes_eq, refl, sym, ap, ap₂, ◌∙◌, inl, inr}
use Rattle.std.specs.List.{AllByRecursion, IsDistinct}
use Rattle.std.proofs.lemmas.Bool.{cases_Bool, cond-true, cond-false}
use Rattle.std.proofs.lemmas.Option.{same_Some}
use Rattle.elem.specs.ElementValue.{ElementValue}
use Rattle.elem.specs.Order.{has_id, HaveDistinctIds}
use Rattle.elem_store.specs.Updates.{element_of, ids_of}
use Rattle.elem_store.proofs.CallerLemmas.{same_id, of_same, of_itself}

pub none_apart : (id : List ℕ) (es : List ElementValue)
    → AllByRecursion (λ other. bytes_eq id other ≡ false) (ids_of es) → element_of es id ≡ None
none_apart id [] apart = refl
none_apart id (e ∷ es) apart = cond-false (has_id id e) (Some e) (element_of es id) apart.0 ∙ none_apart id es apart.1

pub same-by_ids : (es fs : List ElementValue) → HaveDistinctIds es → HaveDistinctIds fs → ids_of es ≡ ids_of fs
    → ((id : List ℕ) → element_of es id ≡ element_of fs id) → es ≡ fs
unfolding IsDistinct
same-by_ids [] [] apart others along same = refl
same-by_ids [] (f ∷ fs) apart others along same = cc
same-by_ids (e ∷ es) [] apart others along same = cc
same-by_ids (e ∷ es) (f ∷ fs) apart others along same =
    let named : e.id ≡ f.id = cc in
    let here : element_of (e ∷ es) e.id ≡ Some e =
    cond-true (has_id e.id e) (Some e) (element_of es e.id) (of_itself e) in
    let there : element_of (f ∷ fs) e.id ≡ Some f =
    cond-true (has_id e.id f) (Some f) (element_of fs e.id) (of_same e.id f named) in
    let first : e ≡ f = same_Some e f (sym here ∙ (same e.id ∙ there)) in
    ap₂ (λ g gs. g ∷ gs) first (same-by_ids es fs apart.1 others.1 (cc) (later first))
  where
    later : e ≡ f → (id : List ℕ) → element_of es id ≡ element_of fs id
    later first id = elim (cases_Bool (has_id id e)) [
      | inl own ↦
          let to = same_id id e own in
          ap (element_of es) to ∙ (none_apart e.id es apart.0
          ∙ sym (ap (element_of fs) (to ∙ ap (λ (g : ElementValue). g.id) first) ∙ none_apart f.id fs others.0))
      | inr other ↦
          sym (cond-false (has_id id e) (Some e) (element_of es id) other)
          ∙ (same id ∙ cond-false (has_id id f) (Some f) (element_of fs id) (ap (has_id id) (sym first) ∙ other))
    ]
