-- The elements at the places of a store: where a search ends among them, and what an edit makes of them.
use Rattle.std.proofs.Common.{◌≡◌, ℕ, zero, suc, ◌+◌, ◌<◌, ◌≤◌, ◌≢◌, Bool, true, false, cond, List, [], ◌∷◌, ◌++◌, length, get_or, take, drop, set, Option, Some, None, Ordering, Less, Equal, Greater, All, IsSomeAnd, slice_get, option_and_then, insert, is_lt, nat_cmp, refl, sym, ap, ap₂, ◌∙◌, subst₂, inl, inr, length-set, length-take, length-drop, length-append, arith}
use Rattle.std.specs.Cmp.Lexicographic.{slice_cmp}
use Rattle.std.specs.List.{cons_option}
use Rattle.std.specs.List.Sorted.{IsNonDecreasingBy}
use Rattle.std.specs.Option.{option_map_or}
use Rattle.std.specs.Ordering.{ordering_index, ordering_reverse}
use Rattle.std.proofs.lemmas.Bool.{false_from_ne_true, cases_eq, cases_order}
use Rattle.std.proofs.lemmas.Cmp.{nat_list_cmp_total}
use Rattle.std.proofs.lemmas.List.{get_or_default, get_or-take, get_or-drop, same_lists, get_or-set_same, get_or-set_other}
use Rattle.std.proofs.lemmas.List.Edits.{length-insert}
use Rattle.std.proofs.lemmas.List.Elements.{All-head, All-tail, All-cons, All-take, All-drop, All-append, All-weaker, filter_map-append}
use Rattle.std.proofs.lemmas.List.Sorted.{searchable_from_sorted}
use Rattle.std.proofs.lemmas.Map.Lookups.{exact_bytes}
use Rattle.std.proofs.lemmas.Option.{slice_get-get_or, slice_get_within, get_or_from_slice_get, none-some}
use Rattle.frac_keys.specs.Keys.{bytes_less}
use Rattle.frac_keys.specs.Rising.{are_rising}
use Rattle.elem.specs.ElementValue.{ElementValue}
use Rattle.elem.specs.Order.{beats}
use Rattle.elem_store.specs.Updates.{element_of, ids_of, is_taken, HasTaken}
use Rattle.elem_store.specs.Places.{elements_at, AreInOrder, IsAt, IsGapFor}
use Rattle.elem_store.specs.inner.Places.{order_at, IsBetween}
use Rattle.elem_store.proofs.Rising.{earlier_less, less-less, less-other}
use Rattle.elem_store.proofs.Edits.{element-at, is_taken-at, HasTaken-set, HasTaken-not, HasTaken-insert}

-- a place within the list has an element
pub some_within : (elements : List ElementValue) (place : ℕ) → place < length elements → (x : ElementValue)
    × (slice_get elements place ≡ Some x)
some_within [] place l = absurd (omega arith)
some_within (x ∷ elements) zero l = (x, refl)
some_within (x ∷ elements) (suc place) l = some_within elements place (omega arith)

pub within_stored : (stored : List ElementValue) (i : ℕ) → i < length stored → None ≡ slice_get stored i → ⊥
within_stored stored i l none = let x = some_within stored i l in none-some x.0 (none ∙ x.1)

abbrev pub AllWithin : List ElementValue → List ℕ → Type 0
AllWithin elements places = All (λ place. place < length elements) places

-- the element at the first place, and those at the others
at-cons : (elements : List ElementValue) (place : ℕ) (places : List ℕ) (x : ElementValue)
    → slice_get elements place ≡ Some x → elements_at elements (place ∷ places) ≡ x ∷ elements_at elements places
at-cons elements place places x h = ap (λ o. cons_option o (elements_at elements places)) h

pub length-at : (elements : List ElementValue) (places : List ℕ) → AllWithin elements places
    → length (elements_at elements places) ≡ length places
length-at elements [] h = refl
length-at elements (place ∷ places) h =
    let x = some_within elements place (All-head (λ place. place < length elements) place places h) in
    ap length (at-cons elements place places x.0 x.1)
    ∙ ap suc (length-at elements places (All-tail (λ place. place < length elements) place places h))

pub get-at : (elements : List ElementValue) (places : List ℕ) (i : ℕ) → AllWithin elements places
    → slice_get (elements_at elements places) i ≡ option_and_then (slice_get elements) (slice_get places i)
get-at elements [] i h = refl
get-at elements (place ∷ places) zero h =
    let x = some_within elements place (All-head (λ place. place < length elements) place places h) in
    ap (λ xs. slice_get xs 0) (at-cons elements place places x.0 x.1) ∙ sym x.1
get-at elements (place ∷ places) (suc i) h =
    let x = some_within elements place (All-head (λ place. place < length elements) place places h) in
    ap (λ xs. slice_get xs (suc i)) (at-cons elements place places x.0 x.1)
    ∙ get-at elements places i (All-tail (λ place. place < length elements) place places h)

pub take-at : (elements : List ElementValue) (places : List ℕ) (i : ℕ) → AllWithin elements places
    → elements_at elements (take i places) ≡ take i (elements_at elements places)
take-at elements places zero h = refl
take-at elements [] (suc i) h = refl
take-at elements (place ∷ places) (suc i) h =
    let x = some_within elements place (All-head (λ place. place < length elements) place places h) in
    at-cons elements place (take i places) x.0 x.1
    ∙ ap (λ xs. x.0 ∷ xs) (take-at elements places i (All-tail (λ place. place < length elements) place places h))
    ∙ sym (ap (take (suc i)) (at-cons elements place places x.0 x.1))

pub drop-at : (elements : List ElementValue) (places : List ℕ) (i : ℕ) → AllWithin elements places
    → elements_at elements (drop i places) ≡ drop i (elements_at elements places)
drop-at elements places zero h = refl
drop-at elements [] (suc i) h = refl
drop-at elements (place ∷ places) (suc i) h =
    let x = some_within elements place (All-head (λ place. place < length elements) place places h) in
    drop-at elements places i (All-tail (λ place. place < length elements) place places h)
    ∙ sym (ap (drop (suc i)) (at-cons elements place places x.0 x.1))

-- elements that come later change nothing at the places
get-later : (elements later : List ElementValue) (place : ℕ) → place < length elements
    → slice_get (elements ++ later) place ≡ slice_get elements place
get-later [] later place l = absurd (omega arith)
get-later (x ∷ elements) later zero l = refl
get-later (x ∷ elements) later (suc place) l = get-later elements later place (omega arith)

pub get-last : (elements : List ElementValue) (e : ElementValue) → slice_get (elements ++ e ∷ []) (length elements)
    ≡ Some e
get-last [] e = refl
get-last (x ∷ elements) e = get-last elements e

pub at-later : (elements later : List ElementValue) (places : List ℕ) → AllWithin elements places
    → elements_at (elements ++ later) places ≡ elements_at elements places
at-later elements later [] h = refl
at-later elements later (place ∷ places) h =
    ap₂ cons_option (get-later elements later place (All-head (λ place. place < length elements) place places h))
    (at-later elements later places (All-tail (λ place. place < length elements) place places h))

-- the element at a place of the list
module _ (elements : List ElementValue) (places : List ℕ) (h : AllWithin elements places) where
  pub at-index : (i n : ℕ) (d : ElementValue) → i < length places
      → slice_get elements (get_or places i n) ≡ Some (get_or (elements_at elements places) i d)
  at-index i n d l =
      sym (ap (option_and_then (slice_get elements)) (slice_get-get_or places i n l)) ∙ sym (get-at elements places i h)
      ∙ slice_get-get_or (elements_at elements places) i d (rw (length-at elements places h) l)

-- the least comparison, and the greatest one
least : (c : Ordering) → ordering_index c ≤ 0 → c ≡ Less
least Less h = refl
least Equal h = absurd (omega arith)
least Greater h = absurd (omega arith)

greatest : (c : Ordering) → 2 ≤ ordering_index c → c ≡ Greater
greatest Less h = absurd (omega arith)
greatest Equal h = absurd (omega arith)
greatest Greater h = refl

module _ (elements : List ElementValue) (places : List ℕ) (o : AreInOrder elements places) (id : List ℕ) where
  order_at-index : (i n : ℕ) (d : ElementValue) → i < length places
      → order_at elements id (get_or places i n) ≡ slice_cmp nat_cmp (get_or (elements_at elements places) i d).id id
  order_at-index i n d l = ap (λ found. option_map_or (λ (e : ElementValue). slice_cmp nat_cmp e.id id) found Less)
      (at-index elements places o.within i n d l)

  -- the ids that stand in order compare with an id in order
  comparisons_rise : IsNonDecreasingBy (λ place. ordering_index (order_at elements id place)) places
  comparisons_rise i j n le l =
      let among = elements_at elements places in
      let count = length-at elements places o.within in
      let x = some_within elements (get_or places j 0) (o.within j 0 l) in
      let sorted = λ (k : ℕ) (d : ElementValue) (low : 0 ≤ k) (m : k + 1 < length among). false_from_ne_true
      (bytes_less (get_or among (k + 1) d).id (get_or among k d).id)
      (less-less (get_or among k d).id (get_or among (k + 1) d).id
      (earlier_less None None among k (k + 1) d o.ordered (omega arith) m)) in
      let rise = searchable_from_sorted nat_list_cmp_total (λ (e : ElementValue). e.id) among id sorted i j x.0 le
      (rw count l) in
      subst₂ (λ a b. ordering_index a ≤ ordering_index b) (sym (order_at-index i n x.0 (omega arith)))
      (sym (order_at-index j n x.0 l)) rise

  -- what a search finds of a place at an index is so of those before it, or from it on, or ends the search at it
  module _ (m place : ℕ) (here : slice_get places m ≡ Some place) where
    order_here : (c : Ordering) → order_at elements id place ≡ c
        → ordering_index (order_at elements id (get_or places m 0)) ≡ ordering_index c
    order_here c found =
        ap ordering_index (ap (order_at elements id) (get_or_from_slice_get places m place 0 here) ∙ found)

    pub between-less : (low high next : ℕ) → next ≡ m + 1 → IsBetween elements places id low high
        → order_at elements id place ≡ Less → IsBetween elements places id next high
    between-less low high next behind between found =
        let l = slice_get_within places m place here in
        record {
          low_within = omega arith;
          high_within = between.high_within;
          less = λ k d n.
              ap (order_at elements id) (get_or_default places k d 0 (omega arith))
              ∙ least (order_at elements id (get_or places k 0))
              (omega (arith, comparisons_rise k m 0 (omega arith) l, order_here Less found));
          greater = between.greater;
        }

    pub between-greater : (low high : ℕ) → IsBetween elements places id low high → order_at elements id place ≡ Greater
        → IsBetween elements places id low m
    between-greater low high between found = record {
      low_within = between.low_within;
      high_within = omega (arith, slice_get_within places m place here);
      less = between.less;
      greater = λ k d n o.
          ap (order_at elements id) (get_or_default places k d 0 o)
          ∙ greatest (order_at elements id (get_or places k 0))
          (omega (arith, comparisons_rise m k 0 n o, order_here Greater found));
    }

    pub searched-found : order_at elements id place ≡ Equal → IsAt (elements_at elements places) id m
    searched-found found =
        let l = slice_get_within places m place here in
        let among = elements_at elements places in
        let x = some_within elements (get_or places m 0) (o.within m 0 l) in
        let same = ap (order_at elements id) (get_or_from_slice_get places m place 0 here) in
        rw (slice_get-get_or among m x.0 (rw (length-at elements places o.within) l))
        (exact_bytes (get_or among m x.0).id id (sym (order_at-index m 0 x.0 l) ∙ same ∙ found))

  greater-less : (a b : List ℕ) → slice_cmp nat_cmp a b ≡ Greater → bytes_less b a ≡ true
  greater-less a b h = ap is_lt (nat_list_cmp_total.antisymm b a ∙ ap ordering_reverse h)

  -- where no place is between the bounds, they are the gap for the id
  pub searched-gap : (low high : ℕ) → high ≤ low → IsBetween elements places id low high
      → IsGapFor (elements_at elements places) id low
  searched-gap low high none between =
      let among = elements_at elements places in
      let count = length-at elements places o.within in
      record {
        in_range = rw count between.low_within;
        less_before = λ k d l.
            let m : k < low = omega (arith, length-take low among) in
            rw (get_or-take low among k d m) (ap is_lt (sym (order_at-index k 0 d (omega (arith, between.low_within)))
            ∙ between.less k 0 m));
        greater_after = λ k d l.
            let m : low + k < length places = omega (arith, length-drop low among) in
            rw (get_or-drop low among k d) (greater-less (get_or among (low + k) d).id id
            (sym (order_at-index (low + k) 0 d m) ∙ between.greater (low + k) 0 (omega arith) m));
      }

-- what an element added at the end of the list is among them
module _ (elements : List ElementValue) (places : List ℕ) (o : AreInOrder elements places) (e : ElementValue) (i : ℕ)
    (gap : IsGapFor (elements_at elements places) e.id i) where
  pub within_count : i ≤ length places
  within_count = omega (arith, length-at elements places o.within, gap.in_range)

  pub at-added : elements_at (elements ++ e ∷ []) (insert places i (length elements))
      ≡ insert (elements_at elements places) i e
  at-added =
      let later = elements ++ e ∷ [] in
      let first = All-take (λ place. place < length elements) i places o.within in
      let rest = All-drop (λ place. place < length elements) i places o.within in
      filter_map-append (slice_get later) (take i places) (length elements ∷ drop i places)
      ∙ ap₂ (λ xs ys. xs ++ ys)
      (at-later elements (e ∷ []) (take i places) first ∙ take-at elements places i o.within)
      (at-cons later (length elements) (drop i places) e (get-last elements e)
      ∙ ap (λ xs. e ∷ xs) (at-later elements (e ∷ []) (drop i places) rest ∙ drop-at elements places i o.within))

  pub HasTaken-added : HasTaken (elements_at elements places) e
      (elements_at (elements ++ e ∷ []) (insert places i (length elements)))
  HasTaken-added = rw at-added (HasTaken-insert (elements_at elements places) e i o.ordered gap)

  pub AreInOrder-added : AreInOrder (elements ++ e ∷ []) (insert places i (length elements))
  AreInOrder-added = record {
    within =
        let P = λ (place : ℕ). place < length (elements ++ e ∷ []) in
        let wider = All-weaker (λ place. place < length elements) P
        (λ place l. omega (arith, length-append elements (e ∷ []))) places o.within in
        let last : length elements < length (elements ++ e ∷ []) = omega (arith, length-append elements (e ∷ [])) in
        All-append P (take i places) (length elements ∷ drop i places) (All-take P i places wider)
        (All-cons P (length elements) (drop i places) last (All-drop P i places wider));
    full =
        omega (arith, length-insert places i (length elements) within_count, length-append elements (e ∷ []), o.full);
    ordered = HasTaken-added.ordered;
  }

-- the element at an index that has an id
pub found : (o : Option ElementValue) (id : List ℕ) → IsSomeAnd o (λ e. e.id ≡ id) → (x : ElementValue) × (o ≡ Some x)
    × (x.id ≡ id)
found None id h = absurd h
found (Some x) id h = (x, refl, h)

-- an index of the elements is one of the places
pub at-within : (elements : List ElementValue) (places : List ℕ) (o : AreInOrder elements places) (id : List ℕ) (i : ℕ)
    → IsAt (elements_at elements places) id i → i < length places
at-within elements places o id i at =
    let x = found (slice_get (elements_at elements places) i) id at in
    rw (← length-at elements places o.within) (slice_get_within (elements_at elements places) i x.0 x.1)

pub read-at : (elements : List ElementValue) (places : List ℕ) → AllWithin elements places
    → (i n : ℕ) (d : ElementValue) → i < length places → get_or (elements_at elements places) i d
    ≡ get_or elements (get_or places i n) d
read-at elements places h i n d l =
    sym (get_or_from_slice_get elements (get_or places i n) (get_or (elements_at elements places) i d) d
    (at-index elements places h i n d l))

-- the element at an index that has an id is the one of the id
pub element-found : (elements : List ElementValue) (id : List ℕ) (i : ℕ) → are_rising (ids_of elements) ≡ true
    → IsAt elements id i → slice_get elements i ≡ element_of elements id
element-found elements id i rising at =
    let x = found (slice_get elements i) id at in
    x.1 ∙ sym (element-at elements rising id i x.0 x.1 x.2)

-- a place that is read at an index is within the elements, and what stands there is the element at the index
pub place-found : (elements : List ElementValue) (places : List ℕ) (i place : ℕ) → AllWithin elements places
    → slice_get places i ≡ Some place → place < length elements
place-found elements places i place h here =
    rw (← get_or_from_slice_get places i place place here) (h i place (slice_get_within places i place here))

pub get-read : (elements : List ElementValue) (places : List ℕ) (i place : ℕ) (x : ElementValue)
    → AllWithin elements places → slice_get places i ≡ Some place → x ≡ get_or elements place x
    → Some x ≡ slice_get (elements_at elements places) i
get-read elements places i place x h here read =
    ap Some read ∙ sym (slice_get-get_or elements place x (place-found elements places i place h here))
    ∙ sym (get-at elements places i h ∙ ap (option_and_then (slice_get elements)) here)

pub none-read : (elements : List ElementValue) (places : List ℕ) (i : ℕ) → AllWithin elements places
    → slice_get places i ≡ None → slice_get (elements_at elements places) i ≡ None
none-read elements places i h none = get-at elements places i h ∙ ap (option_and_then (slice_get elements)) none

-- no place comes twice
pub places_differ : (elements : List ElementValue) (places : List ℕ) (o : AreInOrder elements places) (i k n : ℕ)
    → i < length places → k < length places → k ≢ i → get_or places k n ≢ get_or places i n
places_differ elements places o i k n l m ne same =
    let among = elements_at elements places in
    let count = length-at elements places o.within in
    let x = (some_within elements (get_or places i n) (o.within i n l)).0 in
    let one : get_or among k x ≡ get_or among i x =
    read-at elements places o.within k n x m ∙ ap (λ place. get_or elements place x) same
    ∙ sym (read-at elements places o.within i n x l) in
    let ids = ap (λ (y : ElementValue). y.id) one in
    elim (cases_order k i) [
      | inl e ↦ ne e
      | inr unlike ↦ elim unlike [
        | inl less ↦ less-other (get_or among k x).id (get_or among i x).id
            (earlier_less None None among k i x o.ordered less (rw count l)) ids
        | inr more ↦ less-other (get_or among i x).id (get_or among k x).id
            (earlier_less None None among i k x o.ordered more (rw count m)) (sym ids)
      ]
    ]

-- what an element in the place of one of its id is among them
module _ (elements : List ElementValue) (places : List ℕ) (o : AreInOrder elements places) (e : ElementValue)
    (i place : ℕ) (at : IsAt (elements_at elements places) e.id i) (here : place ≡ get_or places i place) where
  still_within : AllWithin (set elements place e) places
  still_within = All-weaker (λ p. p < length elements) (λ p. p < length (set elements place e))
      (λ p l. rw (length-set elements place e) l) places o.within

  pub place_within : place < length elements
  place_within = rw here (o.within i place (at-within elements places o e.id i at))

  at-replaced : elements_at (set elements place e) places ≡ set (elements_at elements places) i e
  at-replaced =
      let among = elements_at elements places in
      let count = length-at elements places o.within in
      let in_places = at-within elements places o e.id i at in
      same_lists (elements_at (set elements place e) places) (set among i e)
      (length-at (set elements place e) places still_within ∙ sym (length-set among i e ∙ count))
      (λ k d l.
      let m : k < length places = rw (← length-at (set elements place e) places still_within) l in
      let read = read-at (set elements place e) places still_within k place d m in
      elim (cases_eq k i) [
        | inl same ↦ read ∙ ap (λ p. get_or (set elements place e) p d) (ap (λ j. get_or places j place) same
            ∙ sym here)
            ∙ get_or-set_same elements place e d place_within
            ∙ sym (ap (λ j. get_or (set among i e) j d) same ∙ get_or-set_same among i e d (rw count in_places))
        | inr ne ↦ read
            ∙ get_or-set_other elements place (get_or places k place) e d
            (λ same. places_differ elements places o i k place in_places m ne (same ∙ here))
            ∙ sym (read-at elements places o.within k place d m) ∙ sym (get_or-set_other among i k e d ne)
      ])

  old-at : (slice_get (elements_at elements places) i ≡ Some (get_or elements place e))
      × ((get_or elements place e).id ≡ e.id)
  old-at =
      let among = elements_at elements places in
      let x = found (slice_get among i) e.id at in
      let in_places = at-within elements places o e.id i at in
      let same : get_or elements place e ≡ x.0 =
      ap (λ p. get_or elements p e) here ∙ sym (read-at elements places o.within i place e in_places)
      ∙ get_or_from_slice_get among i x.0 e x.1 in
      (x.1 ∙ ap Some (sym same), ap (λ (y : ElementValue). y.id) same ∙ x.2)

  pub taken-replaced : is_taken (elements_at elements places) e ≡ beats e (get_or elements place e)
  taken-replaced = is_taken-at (elements_at elements places) o.ordered e i (get_or elements place e) old-at.0 old-at.1

  -- the elements where the better one of the two stands at the place
  pub HasTaken-replaced : (better : Bool) → better ≡ beats e (get_or elements place e)
      → HasTaken (elements_at elements places) e (elements_at (cond better (set elements place e) elements) places)
  HasTaken-replaced true h =
      rw at-replaced (HasTaken-set (elements_at elements places) o.ordered e i (get_or elements place e) old-at.0
      old-at.1 (sym h))
  HasTaken-replaced false h = HasTaken-not (elements_at elements places) e o.ordered (taken-replaced ∙ sym h)

  pub AreInOrder-replaced : (better : Bool) → better ≡ beats e (get_or elements place e)
      → AreInOrder (cond better (set elements place e) elements) places
  AreInOrder-replaced true h = record {
    within = still_within;
    full = o.full ∙ sym (length-set elements place e);
    ordered = (HasTaken-replaced true h).ordered;
  }
  AreInOrder-replaced false h = o
