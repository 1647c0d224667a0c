-- Elements of distinct ids, put in the order of their ids, are their own store.
use Rattle.std.proofs.Common.{◌≡◌, ℕ, List, [], ◌∷◌, Bool, true, false, cond, Option, Some, None, filter, bytes_eq, refl, sym, ap, ◌∙◌}
use Rattle.std.specs.List.{AllByRecursion, IsDistinct}
use Rattle.std.specs.List.Sorted.{IsPermutation}
use Rattle.std.proofs.lemmas.Bool.{and_parts, and_from, both_ways, cond_both}
use Rattle.std.proofs.lemmas.List.Elements.{All-from_recursion, recursion_from_All}
use Rattle.std.proofs.lemmas.List.Sorted.{IsPermutation-refl, IsPermutation-sym, IsPermutation-cons, IsPermutation-trans, IsPermutation-middle, All-permutation}
use Rattle.json_text.proofs.CallerLemmas.{bytes_eq-true, bytes_eq-same}
use Rattle.frac_keys.specs.Keys.{bytes_less}
use Rattle.frac_keys.specs.Rising.{ends_rise, rise_between, are_rising}
use Rattle.frac_keys.proofs.CallerLemmas.{bytes_less-turned}
use Rattle.elem.specs.ElementValue.{ElementValue}
use Rattle.elem.specs.Order.{has_id, HaveDistinctIds}
use Rattle.elem_store.specs.Updates.{ids_of, AreStored}
use Rattle.elem_store.proofs.CallerLemmas.{leader, stored-leader, AreStored-itself}

-- elements in the order of their ids and one more
abbrev with_id : ElementValue → List ElementValue → List ElementValue
with_id e [] = e ∷ []
with_id e (x ∷ xs) = cond (bytes_less x.id e.id) (x ∷ with_id e xs) (e ∷ x ∷ xs)

abbrev pub by_id : List ElementValue → List ElementValue
by_id [] = []
by_id (e ∷ es) = with_id e (by_id es)

-- ---- they are only moved
moved-with : (e : ElementValue) (es : List ElementValue) → IsPermutation (e ∷ es) (with_id e es)
moved-with e [] = IsPermutation-refl (e ∷ [])
moved-with e (x ∷ xs) =
    cond_both (bytes_less x.id e.id) (x ∷ with_id e xs) (e ∷ x ∷ xs) (IsPermutation (e ∷ x ∷ xs))
    (λ _. IsPermutation-trans _ (x ∷ e ∷ xs) _ (IsPermutation-sym _ _ (IsPermutation-middle (x ∷ []) e xs))
    (IsPermutation-cons x _ _ (moved-with e xs)))
    (λ _. IsPermutation-refl (e ∷ x ∷ xs))

pub by_id-moved : (es : List ElementValue) → IsPermutation es (by_id es)
by_id-moved [] = IsPermutation-refl []
by_id-moved (e ∷ es) =
    IsPermutation-trans _ (e ∷ by_id es) _ (IsPermutation-cons e _ _ (by_id-moved es)) (moved-with e (by_id es))

-- ---- their ids rise
abbrev IsApart : ElementValue → ElementValue → Type 0
IsApart e x = bytes_eq e.id x.id ≡ false

rise-with : (low : Option (List ℕ)) (e : ElementValue) (es : List ElementValue) → AllByRecursion (IsApart e) es
    → ends_rise low (Some e.id) ≡ true
    → rise_between low None (ids_of es) ≡ true → rise_between low None (ids_of (with_id e es)) ≡ true
rise-with low e [] apart above rise = and_from (ends_rise low (Some e.id)) true above refl
rise-with low e (x ∷ xs) apart above rise =
    let parts = and_parts (ends_rise low (Some x.id)) (rise_between (Some x.id) None (ids_of xs)) rise in
    go parts.0 parts.1 (bytes_less x.id e.id) refl (λ less. rise-with (Some x.id) e xs apart.1 less parts.1)
  where
    go : ends_rise low (Some x.id) ≡ true → rise_between (Some x.id) None (ids_of xs) ≡ true → (b : Bool)
        → bytes_less x.id e.id ≡ b
        → (bytes_less x.id e.id ≡ true → rise_between (Some x.id) None (ids_of (with_id e xs)) ≡ true)
        → rise_between low None (ids_of (cond b (x ∷ with_id e xs) (e ∷ x ∷ xs))) ≡ true
    go first behind true less more =
        and_from (ends_rise low (Some x.id)) (rise_between (Some x.id) None (ids_of (with_id e xs))) first (more less)
    go first behind false not_less more =
        and_from (ends_rise low (Some e.id)) (rise_between (Some e.id) None (ids_of (x ∷ xs))) above
        (and_from (bytes_less e.id x.id) (rise_between (Some x.id) None (ids_of xs))
        (bytes_less-turned e.id x.id apart.0 not_less) behind)

apart-ids : (e : ElementValue) (es : List ElementValue) → AllByRecursion (λ id. bytes_eq e.id id ≡ false) (ids_of es)
    → AllByRecursion (IsApart e) es
apart-ids e [] apart = tt
apart-ids e (x ∷ xs) apart = (apart.0, apart-ids e xs apart.1)

distinct-parts : (e : ElementValue) (es : List ElementValue) → HaveDistinctIds (e ∷ es) → AllByRecursion (IsApart e) es
    × HaveDistinctIds es
unfolding IsDistinct
distinct-parts e es distinct = (apart-ids e es distinct.0, distinct.1)

apart-by_id : (e : ElementValue) (es : List ElementValue) → AllByRecursion (IsApart e) es
    → AllByRecursion (IsApart e) (by_id es)
apart-by_id e es apart = recursion_from_All (IsApart e) (by_id es)
    (All-permutation (IsApart e) es (by_id es) (by_id-moved es) (All-from_recursion (IsApart e) es apart))

by_id-rise : (es : List ElementValue) → HaveDistinctIds es → are_rising (ids_of (by_id es)) ≡ true
by_id-rise [] distinct = refl
by_id-rise (e ∷ es) distinct =
    let parts = distinct-parts e es distinct in
    rise-with None e (by_id es) (apart-by_id e es parts.0) refl (by_id-rise es parts.1)

-- ---- the elements of one id are as before
swapped : (e x : ElementValue) (es : List ElementValue) (p q : Bool) → (p ≡ true → q ≡ true → ⊥)
    → cond p (x ∷ cond q (e ∷ es) es) (cond q (e ∷ es) es) ≡ cond q (e ∷ cond p (x ∷ es) es) (cond p (x ∷ es) es)
swapped e x es true true not_both = absurd (not_both refl refl)
swapped e x es true false not_both = refl
swapped e x es false true not_both = refl
swapped e x es false false not_both = refl

filter-with : (id : List ℕ) (e : ElementValue) (es : List ElementValue) → AllByRecursion (IsApart e) es
    → filter (has_id id) (with_id e es) ≡ filter (has_id id) (e ∷ es)
filter-with id e [] apart = refl
filter-with id e (x ∷ xs) apart = go (bytes_less x.id e.id) (filter-with id e xs apart.1)
  where
    not_both : has_id id x ≡ true → has_id id e ≡ true → ⊥
    not_both first second =
        let same : e.id ≡ x.id = sym (bytes_eq-true id e.id second) ∙ bytes_eq-true id x.id first in
        both_ways (bytes_eq e.id x.id) apart.0 (ap (bytes_eq e.id) (sym same) ∙ bytes_eq-same e.id)

    go : (b : Bool) → filter (has_id id) (with_id e xs) ≡ filter (has_id id) (e ∷ xs)
        → filter (has_id id) (cond b (x ∷ with_id e xs) (e ∷ x ∷ xs)) ≡ filter (has_id id) (e ∷ x ∷ xs)
    go true more =
        ap (λ es. cond (has_id id x) (x ∷ es) es) more
        ∙ swapped e x (filter (has_id id) xs) (has_id id x) (has_id id e) not_both
    go false more = refl

filter-by_id : (id : List ℕ) (es : List ElementValue) → HaveDistinctIds es
    → filter (has_id id) (by_id es) ≡ filter (has_id id) es
filter-by_id id [] distinct = refl
filter-by_id id (e ∷ es) distinct =
    let parts = distinct-parts e es distinct in
    filter-with id e (by_id es) (apart-by_id e es parts.0)
    ∙ ap (λ fs. cond (has_id id e) (e ∷ fs) fs) (filter-by_id id es parts.1)

pub AreStored-by_id : (es : List ElementValue) → HaveDistinctIds es → AreStored es (by_id es)
AreStored-by_id es distinct =
    let rise = by_id-rise es distinct in
    record {
      ordered = rise;
      each = λ id. (AreStored-itself (by_id es) rise).each id
          ∙ (stored-leader (by_id es) id ∙ (ap leader (filter-by_id id es distinct) ∙ sym (stored-leader es id)));
    }
