-- First occurrences: one text more, and which texts they are.
use Rattle.std.proofs.Common.{◌≡◌, ℕ, Bool, true, false, cond, not, ◌&&◌, ◌||◌, ◌↔◌, List, [], ◌∷◌, ◌++◌, Contains, filter, bytes_eq, refl, sym, ap, ◌∙◌}
use Rattle.std.specs.List.{AllByRecursion, list_any, IsDistinct}
use Rattle.std.specs.Cmp.Lexicographic.{nat_list_eq_equiv}
use Rattle.std.proofs.lemmas.Bool.{not-true, not_from_false}
use Rattle.std.proofs.lemmas.List.{append-nil}
use Rattle.std.proofs.lemmas.List.Elements.{filter_passes, filter-append, recursion_from_All}
use Rattle.std.proofs.lemmas.Map.Views.{any-filter_same, Contains-from_any, list_any-from_Contains}
use Rattle.indexmap.specs.IndexSet.{insert_key}
use Rattle.json_text.specs.FirstOccurrences.{is_other, first_texts}
use Rattle.json_text.proofs.Collapsed.{bytes_eq-true}

-- ---- one text more
with_one_more : (text other : List ℕ) (texts : List (List ℕ)) (among same : Bool)
    → text ∷ cond among texts (texts ++ cond (not same) (other ∷ []) [])
    ≡ cond (same || among) (text ∷ texts) ((text ∷ texts) ++ other ∷ [])
with_one_more text other texts true true = refl
with_one_more text other texts true false = refl
with_one_more text other texts false true = ap (λ x. text ∷ x) (append-nil texts)
with_one_more text other texts false false = refl

filter_either : (p : List ℕ → Bool) (b : Bool) (xs ys : List (List ℕ))
    → filter p (cond b xs ys) ≡ cond b (filter p xs) (filter p ys)
filter_either p true xs ys = refl
filter_either p false xs ys = refl

pub first_texts-push : (texts : List (List ℕ)) (other : List ℕ)
    → first_texts (texts ++ other ∷ []) ≡ cond (list_any (bytes_eq other) texts) (first_texts texts) (first_texts texts
    ++ other ∷ [])
first_texts-push [] other = refl
first_texts-push (text ∷ texts) other =
    let p = is_other bytes_eq text in
    let found = first_texts texts in
    let among = list_any (bytes_eq other) texts in
    ap (λ x. text ∷ filter p x) (first_texts-push texts other)
    ∙ ap (λ x. text ∷ x) (filter_either p among found (found ++ other ∷ []))
    ∙ ap (λ x. text ∷ cond among (filter p found) x) (filter-append p found (other ∷ []))
    ∙ ap (λ b. text ∷ cond among (filter p found) (filter p found ++ cond (not b) (other ∷ []) []))
    (nat_list_eq_equiv.symm text other)
    ∙ with_one_more text other (filter p found) among (bytes_eq other text)

-- ---- they are distinct
AllByRecursion-filter : (P : List ℕ → Type 0) (p : List ℕ → Bool) (xs : List (List ℕ)) → AllByRecursion P xs
    → AllByRecursion P (filter p xs)
AllByRecursion-filter P p [] h = tt
AllByRecursion-filter P p (x ∷ xs) h =
    elim (p x) as (λ b. AllByRecursion P (cond b (x ∷ filter p xs) (filter p xs))) [
      | true ↦ (h.0, AllByRecursion-filter P p xs h.1)
      | false ↦ AllByRecursion-filter P p xs h.1
    ]

AllByRecursion-weaker : {P Q : List ℕ → Type 0} (xs : List (List ℕ)) → ((x : List ℕ) → P x → Q x) → AllByRecursion P xs
    → AllByRecursion Q xs
AllByRecursion-weaker [] f h = tt
AllByRecursion-weaker (x ∷ xs) f h = (f x h.0, AllByRecursion-weaker xs f h.1)

pub IsDistinct-filter : (p : List ℕ → Bool) (xs : List (List ℕ)) → IsDistinct bytes_eq xs
    → IsDistinct bytes_eq (filter p xs)
unfolding IsDistinct
IsDistinct-filter p [] h = tt
IsDistinct-filter p (x ∷ xs) h =
    elim (p x) as (λ b. IsDistinct bytes_eq (cond b (x ∷ filter p xs) (filter p xs))) [
      | true ↦ (AllByRecursion-filter (λ y. bytes_eq x y ≡ false) p xs h.0, IsDistinct-filter p xs h.1)
      | false ↦ IsDistinct-filter p xs h.1
    ]

apart : (x y : List ℕ) → is_other bytes_eq x y ≡ true → bytes_eq x y ≡ false
apart x y h = not-true (bytes_eq x y) h

pub IsDistinct-first_texts : (texts : List (List ℕ)) → IsDistinct bytes_eq (first_texts texts)
unfolding IsDistinct
IsDistinct-first_texts [] = tt
IsDistinct-first_texts (text ∷ texts) =
    let found = first_texts texts in (
      AllByRecursion-weaker (filter (is_other bytes_eq text) found) (apart text)
          (recursion_from_All (λ y. is_other bytes_eq text y ≡ true) (filter (is_other bytes_eq text) found)
          (filter_passes (is_other bytes_eq text) found)),
      IsDistinct-filter (is_other bytes_eq text) found (IsDistinct-first_texts texts),
    )

-- ---- they are the texts

either_way : (same among : Bool) → (same || (not same && among)) ≡ (same || among)
either_way true among = refl
either_way false among = refl

pub any-first_texts : (texts : List (List ℕ)) (text : List ℕ)
    → list_any (bytes_eq text) (first_texts texts) ≡ list_any (bytes_eq text) texts
any-first_texts [] text = refl
any-first_texts (first ∷ texts) text =
    let same = bytes_eq text first in
    ap (λ b. same || b) (any-filter_same (bytes_eq text) (is_other bytes_eq first) (not same)
    (λ k h. ap (λ x. not (bytes_eq first x)) (sym (bytes_eq-true text k h))
    ∙ ap not (nat_list_eq_equiv.symm first text)) (first_texts texts))
    ∙ ap (λ b. same || (not same && b)) (any-first_texts texts text)
    ∙ either_way same (list_any (bytes_eq text) texts)

pub Contains-first_texts : (texts : List (List ℕ)) (text : List ℕ) → Contains (first_texts texts) text
    ↔ Contains texts text
Contains-first_texts texts text = (
  λ c. Contains-from_any bytes_eq-true text texts (sym (any-first_texts texts text)
      ∙ list_any-from_Contains nat_list_eq_equiv text (first_texts texts) c),
  λ c. Contains-from_any bytes_eq-true text (first_texts texts) (any-first_texts texts text
      ∙ list_any-from_Contains nat_list_eq_equiv text texts c),
)

-- inserted into the first occurrences, a text joins them at their end if it isn't among them
pub first_texts-inserted : (texts : List (List ℕ)) (text : List ℕ)
    → insert_key bytes_eq (first_texts texts) text ≡ first_texts (texts ++ text ∷ [])
first_texts-inserted texts text =
    let found = first_texts texts in
    ap (λ b. cond b found (found ++ text ∷ [])) (any-first_texts texts text) ∙ sym (first_texts-push texts text)

-- ---- distinct texts stay
filter_keeps : (p : List ℕ → Bool) (xs : List (List ℕ)) → AllByRecursion (λ x. p x ≡ true) xs → filter p xs ≡ xs
filter_keeps p [] h = refl
filter_keeps p (x ∷ xs) h =
    ap (λ b. cond b (x ∷ filter p xs) (filter p xs)) h.0 ∙ ap (λ ys. x ∷ ys) (filter_keeps p xs h.1)

other : (x y : List ℕ) → bytes_eq x y ≡ false → is_other bytes_eq x y ≡ true
other x y h = not_from_false (bytes_eq x y) h

pub first_texts-distinct : (texts : List (List ℕ)) → IsDistinct bytes_eq texts → first_texts texts ≡ texts
unfolding IsDistinct
first_texts-distinct [] h = refl
first_texts-distinct (text ∷ texts) h =
    ap (λ x. text ∷ filter (is_other bytes_eq text) x) (first_texts-distinct texts h.1)
    ∙ ap (λ x. text ∷ x) (filter_keeps (is_other bytes_eq text) texts (AllByRecursion-weaker texts (other text) h.0))
