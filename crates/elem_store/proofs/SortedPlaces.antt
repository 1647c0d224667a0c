-- Places along which the ids rise.
use Rattle.std.proofs.Common.{◌≡◌, ℕ, ◌+◌, ◌<◌, Bool, true, List, [], ◌∷◌, length, get_or, map, slice_get, All, Ordering, Less, Equal, Greater, is_lt, nat_cmp, sym, ap, ap₂, ◌∙◌, refl, arith}
use Rattle.std.specs.Cmp.Lexicographic.{slice_cmp, nat_list_cmp_total}
use Rattle.std.specs.List.{range_with_len, cons_option, AllAdjacentBelow}
use Rattle.std.specs.Option.{option_map_or}
use Rattle.std.specs.List.Sorted.{IsPermutation}
use Rattle.std.proofs.Math.ListN.{get_or-map}
use Rattle.std.proofs.lemmas.List.{length-map}
use Rattle.std.proofs.lemmas.List.Elements.{All-head, All-tail}
use Rattle.std.proofs.lemmas.List.FromFn.{get_or-range_with_len, length-range_with_len}
use Rattle.std.proofs.lemmas.List.Sorted.{All-permutation}
use Rattle.std.proofs.lemmas.Map.Keys.{sorted_from_all_adjacent}
use Rattle.frac_keys.specs.Rising.{are_rising}
use Rattle.frac_keys.proofs.CallerLemmas.{sorted-rising}
use Rattle.elem.specs.ElementValue.{ElementValue}
use Rattle.elem_store.specs.Places.{elements_at, AreInOrder}
use Rattle.elem_store.specs.Updates.{ids_of, AreStored}
use Rattle.elem_store.specs.inner.Places.{id_at}
use Rattle.elem_store.proofs.Given.{given-stored, stored-given}
use Rattle.elem_store.proofs.Placed.{AllWithin, some_within}
use Rattle.elem_store.proofs.StoreLaws.{AreStored-reordered}

is_less : (o : Ordering) → true ≡ is_lt o → o ≡ Less
is_less Less h = refl
is_less Equal h = absurd (cc)
is_less Greater h = absurd (cc)

module _ (elements : List ElementValue) where
  ids-at : (places : List ℕ) → AllWithin elements places → ids_of (elements_at elements places)
      ≡ map (id_at elements) places
  ids-at [] h = refl
  ids-at (place ∷ places) h =
      let x = some_within elements place (All-head (λ place. place < length elements) place places h) in
      ap (λ o. ids_of (cons_option o (elements_at elements places))) x.1
      ∙ ap₂ (λ id ids. id ∷ ids) (sym (ap (λ o. option_map_or (λ (e : ElementValue). e.id) o []) x.1))
      (ids-at places (All-tail (λ place. place < length elements) place places h))

  -- whether the id at a place is less than that at another one
  abbrev pub is_before : ℕ → ℕ → Bool
  is_before place other = is_lt (slice_cmp nat_cmp (id_at elements place) (id_at elements other))

  pub rising-at : (places : List ℕ) → AllWithin elements places
      → AllAdjacentBelow (λ place next. true ≡ is_before place next) places (length places)
      → are_rising (ids_of (elements_at elements places)) ≡ true
  rising-at places h up =
      ap (λ ids. are_rising ids) (ids-at places h)
      ∙ sorted-rising (map (id_at elements) places)
      (sorted_from_all_adjacent nat_list_cmp_total (map (id_at elements) places) (id_at elements 0) (λ k l.
      rw (get_or-map (id_at elements) places k 0, get_or-map (id_at elements) places (k + 1) 0)
      (is_less _ (up k 0 (omega (arith, l, length-map places (id_at elements)))))))

  -- elements whose ids rise along all places are the store of their list
  pub in_order-stored : (places : List ℕ) → AreInOrder elements places
      → AreStored elements (elements_at elements places)
  in_order-stored places o =
      AreStored-reordered elements (elements_at elements places)
      (record { in_others = given-stored elements places o; in_updates = stored-given elements places o })
      o.ordered

-- the places of a list, in any order, are within it
pub within-moved : (n : ℕ) (places : List ℕ) → IsPermutation (range_with_len 0 n) places
    → All (λ place. place < n) places
within-moved n places moved =
    All-permutation (λ place. place < n) (range_with_len 0 n) places moved (λ i d l.
    let m : i < n = omega (arith, l, length-range_with_len 0 n) in
    omega (arith, get_or-range_with_len 0 n i d m, m))
