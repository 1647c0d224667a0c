-- Where a search by an id ends among elements in the order of their ids.
use Rattle.std.proofs.Common.{◌≡◌, ℕ, ◌+◌, ◌<◌, ◌≤◌, true, List, [], ◌∷◌, length, get_or, None, Result, Ok, Err, Ordering, Equal, Greater, IfOk, IfErr, is_lt, nat_cmp, ap, ◌∙◌, length-take, length-drop, arith}
use Rattle.std.specs.Cmp.Lexicographic.{slice_cmp}
use Rattle.std.specs.List.Sorted.{IsBinarySearchResult, IsNonDecreasingBy, IsSearchInRange}
use Rattle.std.specs.Ordering.{ordering_index, ordering_reverse}
use Rattle.std.proofs.lemmas.Bool.{false_from_ne_true}
use Rattle.std.proofs.lemmas.Cmp.{nat_list_cmp_total}
use Rattle.std.proofs.lemmas.List.{get_or-take, get_or-drop}
use Rattle.std.proofs.lemmas.List.Sorted.{searchable_from_sorted}
use Rattle.std.proofs.lemmas.Map.Lookups.{exact_bytes}
use Rattle.std.proofs.lemmas.Option.{slice_get-get_or}
use Rattle.frac_keys.specs.Keys.{bytes_less}
use Rattle.frac_keys.specs.Rising.{are_rising}
use Rattle.elem.specs.ElementValue.{ElementValue}
use Rattle.elem_store.specs.Updates.{ids_of}
use Rattle.elem_store.specs.Places.{IsAt, IsGapFor}
use Rattle.elem_store.proofs.CallerLemmas.{earlier_less, less-less}

-- how the id of an element compares with an id
abbrev pub order_to : List ℕ → ElementValue → Ordering
order_to id e = slice_cmp nat_cmp e.id id

module _ (elements : List ElementValue) (id : List ℕ) where
  comparisons_rise : are_rising (ids_of elements) ≡ true
      → IsNonDecreasingBy (λ e. ordering_index (order_to id e)) elements
  comparisons_rise rising =
      searchable_from_sorted nat_list_cmp_total (λ (e : ElementValue). e.id) elements id
      (λ (k : ℕ) (d : ElementValue) (low : 0 ≤ k) (m : k + 1 < length elements). false_from_ne_true
      (bytes_less (get_or elements (k + 1) d).id (get_or elements k d).id)
      (less-less (get_or elements k d).id (get_or elements (k + 1) d).id
      (earlier_less None None elements k (k + 1) d rising (omega arith) m)))

  greater-less : (a b : List ℕ) → slice_cmp nat_cmp a b ≡ Greater → bytes_less b a ≡ true
  greater-less a b h = ap is_lt (nat_list_cmp_total.antisymm b a ∙ ap ordering_reverse h)

  gap-at : (i : ℕ) → are_rising (ids_of elements) ≡ true → i ≤ length elements
      → IsBinarySearchResult (order_to id) elements (Err i) → IsGapFor elements id i
  gap-at i rising le parted =
      let parts = parted (comparisons_rise rising) in
      record {
        in_range = le;
        less_before = λ k d l.
            let m : k < i = omega (arith, length-take i elements) in
            rw (get_or-take i elements k d m) (ap is_lt (parts.0 k d (omega arith) m));
        greater_after = λ k d l.
            let m : i + k < length elements = omega (arith, length-drop i elements) in
            rw (get_or-drop i elements k d) (greater-less (get_or elements (i + k) d).id id
            (parts.1 (i + k) d (omega arith) m));
      }

  pub searched-found : (r : Result ℕ ℕ) → IsSearchInRange r (length elements)
      → IsBinarySearchResult (order_to id) elements r → IfOk r (IsAt elements id)
  searched-found (Ok i) in_range equal = at-place elements i in_range equal where
    at-place : (es : List ElementValue) (k : ℕ) → k < length es
        → ((d : ElementValue) → order_to id (get_or es k d) ≡ Equal) → IsAt es id k
    at-place [] k l h = absurd (omega arith)
    at-place (e ∷ es) k l h = rw (slice_get-get_or (e ∷ es) k e l) (exact_bytes (get_or (e ∷ es) k e).id id (h e))
  searched-found (Err i) in_range parted = tt

  pub searched-gap : (r : Result ℕ ℕ) → IsSearchInRange r (length elements)
      → IsBinarySearchResult (order_to id) elements r → are_rising (ids_of elements) ≡ true
      → IfErr r (IsGapFor elements id)
  searched-gap (Ok i) in_range equal rising = tt
  searched-gap (Err i) in_range parted rising = gap-at i rising in_range parted
