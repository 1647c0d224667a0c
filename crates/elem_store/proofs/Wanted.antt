-- One turn of putting items in order within their own list, and what stands there in the end.
use Rattle.std.proofs.Common.{◌≡◌, ℕ, suc, ◌+◌, ◌<◌, ◌≤◌, ◌≢◌, List, [], ◌∷◌, length, get_or, take, set, All, sym, ap, ap₂, ◌∙◌, inl, inr, length-set, length-take, arith}
use Rattle.std.specs.List.{SwappedAt, cons_option}
use Rattle.std.specs.Prelude.{filter_map, slice_get}
use Rattle.std.proofs.lemmas.Bool.{cases_eq}
use Rattle.std.proofs.lemmas.List.{get_or_default, get_or-set_same, get_or-set_other, get_or-take}
use Rattle.std.proofs.lemmas.List.Elements.{All-head, All-tail}
use Rattle.std.proofs.lemmas.Option.{slice_get-get_or}
use Rattle.elem_store.specs.inner.Arranging.{AreWanted, AreArranged}

-- The item that is wanted at an index comes there, and the one that stood there takes its place, which is told to who
-- wants that one.
module _ (places wanted_by : List ℕ) (i place other : ℕ) (w : AreWanted places wanted_by i) (l : i < length places)
    (place_is : place ≡ get_or places i 0) (other_is : other ≡ get_or wanted_by i 0) where
  abbrev places_then : List ℕ
  places_then = set places other place

  abbrev wanted_then : List ℕ
  wanted_then = set wanted_by place other

  from : i ≤ place
  from = omega (arith, w.before i (omega arith) l)

  inside : place < length wanted_by
  inside = omega (arith, w.within i (omega arith) l)

  by_i : get_or wanted_by place 0 ≡ i
  by_i = ap (λ p. get_or wanted_by p 0) place_is ∙ w.by i (omega arith) l

  -- who wants what stands at the index, if anybody does
  other_place : other < length places → (i ≤ other) × (get_or places other 0 ≡ i)
  other_place m =
      let inner : i < length wanted_by = omega (arith, from, inside) in
      let n : get_or wanted_by i 0 < length places = omega arith in (
        omega (arith, w.later i (omega arith) inner n),
        ap (λ k. get_or places k 0) other_is ∙ w.place i (omega arith) inner n,
      )

  place_same : other < length places → get_or places_then other 0 ≡ place
  place_same m = get_or-set_same places other place 0 m

  place_other : (k : ℕ) → k ≢ other → get_or places_then k 0 ≡ get_or places k 0
  place_other k ne = get_or-set_other places other k place 0 ne

  -- another one that is left wants neither what stands at the index nor what is wanted there
  apart : (k : ℕ) → i + 1 ≤ k → k < length places → k ≢ other
      → (get_or places k 0 ≢ i) × (get_or places k 0 ≢ place)
  apart k le m ne =
      let by = w.by k (omega arith) m in (
        λ same. ne (sym by ∙ ap (λ p. get_or wanted_by p 0) same ∙ sym other_is),
        λ same. omega (arith, sym by ∙ ap (λ p. get_or wanted_by p 0) same ∙ by_i),
      )

  -- the place of one that is left
  place_then : (k : ℕ) → i + 1 ≤ k → k < length places → (i + 1 ≤ get_or places_then k 0)
      × (get_or places_then k 0 < length wanted_by) × (get_or wanted_then (get_or places_then k 0) 0 ≡ k)
  place_then k le m =
      elim (cases_eq k other) [
        | inl same ↦
            let n : other < length places = omega arith in
            let moved : place ≢ i = λ is. omega (arith, by_i, ap (λ p. get_or wanted_by p 0) is) in
            rw (same, place_same n)
            (omega (arith, from, moved), inside, get_or-set_same wanted_by place other 0 inside)
        | inr ne ↦
            let unlike = apart k le m ne in
            rw (place_other k ne) (
              omega (arith, w.before k (omega arith) m, unlike.0),
              w.within k (omega arith) m,
              get_or-set_other wanted_by place (get_or places k 0) other 0 unlike.1 ∙ w.by k (omega arith) m,
            )
      ]

  -- who wants what stands at a place that is left
  wanted_then_by : (p : ℕ) → i + 1 ≤ p → p < length wanted_by → get_or wanted_then p 0 < length places
      → (i + 1 ≤ get_or wanted_then p 0) × (get_or places_then (get_or wanted_then p 0) 0 ≡ p)
  wanted_then_by p le m n =
      elim (cases_eq p place) [
        | inl same ↦
            let is : get_or wanted_then p 0 ≡ other =
            ap (λ q. get_or wanted_then q 0) same ∙ get_or-set_same wanted_by place other 0 inside in
            let o : other < length places = omega arith in
            let there = other_place o in
            let moved : other ≢ i = λ e. omega (arith, there.1, ap (λ k. get_or places k 0) e) in (
              omega (arith, is, there.0, moved),
              ap (λ k. get_or places_then k 0) is ∙ place_same o ∙ sym same,
            )
        | inr ne ↦
            let by = get_or wanted_by p 0 in
            let is : get_or wanted_then p 0 ≡ by = get_or-set_other wanted_by place p other 0 ne in
            let o : by < length places = omega arith in
            let here = w.place p (omega arith) m o in
            let moved : by ≢ i = λ e. ne (sym here ∙ ap (λ k. get_or places k 0) e ∙ sym place_is) in
            let unlike : by ≢ other =
            λ e. omega (arith, here, ap (λ k. get_or places k 0) e, (other_place (omega (arith, e, o))).1) in (
              omega (arith, is, moved, w.later p (omega arith) m o),
              ap (λ k. get_or places_then k 0) is ∙ place_other by unlike ∙ here,
            )
      ]

  AreWanted-next : AreWanted places_then wanted_then (i + 1)
  AreWanted-next =
      let number = length-set places other place in
      let count = length-set wanted_by place other in
      record {
        before = λ k le m. (place_then k le (omega arith)).0;
        within = λ k le m. rw count (place_then k le (omega arith)).1;
        by = λ k le m. (place_then k le (omega arith)).2;
        later = λ p le m n. (wanted_then_by p le (omega arith) (omega arith)).0;
        place = λ p le m n. (wanted_then_by p le (omega arith) (omega arith)).1;
      }

  -- whoever is left finds the same item when those at the index and at the place are swapped
  found_then : {X : Type 0} (items next : List X) (k : ℕ) (d : X) → SwappedAt items next i place → i + 1 ≤ k
      → k < length places → get_or next (get_or places_then k 0) d ≡ get_or items (get_or places k 0) d
  found_then items next k d swapped le m =
      elim (cases_eq k other) [
        | inl same ↦ let n : other < length places = omega arith in
            rw (same, place_same n) (swapped.1 d ∙ ap (λ p. get_or items p d) (sym (other_place n).1))
        | inr ne ↦ let unlike = apart k le m ne in
            rw (place_other k ne) (swapped.2 (get_or places k 0) d unlike.0 unlike.1)
      ]

-- a turn puts the item that is wanted at an index there
pub AreArranged-next : {X : Type 0} (old : List X) (wanted : List ℕ) (items next : List X) (places wanted_by : List ℕ)
    (i place other : ℕ) → AreArranged old wanted items places wanted_by i → i < length places
    → place ≡ get_or places i place → other ≡ get_or wanted_by i other → SwappedAt items next i place
    → length next ≡ length items
    → AreArranged old wanted next (set places other place) (set wanted_by place other) (i + 1)
AreArranged-next {X} old wanted items next places wanted_by i place other a l place_read other_read swapped count =
    let place_is : place ≡ get_or places i 0 = place_read ∙ get_or_default places i place 0 l in
    let low : i ≤ place = omega (arith, a.links.before i (omega arith) l) in
    let high : place < length wanted_by = omega (arith, a.links.within i (omega arith) l) in
    let other_is : other ≡ get_or wanted_by i 0 =
    other_read ∙ get_or_default wanted_by i other 0 (omega (arith, low, high)) in
    record {
      links = AreWanted-next places wanted_by i place other a.links l place_is other_is;
      number = length-set places other place ∙ a.number;
      count = length-set wanted_by place other ∙ a.count ∙ sym count;
      in_range = omega (arith, low, high, count, a.count);
      placed = λ k d le. elim (cases_eq k i) [
        | inl same ↦ ap (λ k. get_or next k d) same ∙ swapped.0 d ∙ ap (λ p. get_or items p d) place_is
            ∙ a.left i d (omega arith) l ∙ ap (λ k. get_or old (get_or wanted k 0) d) (sym same)
        | inr ne ↦ swapped.2 k d ne (omega (arith, low, le, ne)) ∙ a.placed k d (omega (arith, le, ne))
      ];
      left = λ k d le m.
          let n : k < length places = omega (arith, length-set places other place) in
          found_then places wanted_by i place other a.links l place_is other_is items next k d swapped le n
          ∙ a.left k d (omega arith) n;
    }

-- the items that stand in their order are those at the places
read_at : {X : Type 0} (old : List X) (places : List ℕ) (items : List X)
    → All (λ place. place < length old) places → length items ≡ length places
    → ((k : ℕ) (d : X) → k < length places → get_or items k d ≡ get_or old (get_or places k 0) d)
    → items ≡ filter_map (slice_get old) places
read_at old [] [] within count is = cc
read_at old [] (x ∷ items) within count is = cc
read_at old (place ∷ places) [] within count is = cc
read_at old (place ∷ places) (x ∷ items) within count is =
    let P = λ (place : ℕ). place < length old in
    let here = slice_get-get_or old place x (All-head P place places within) in
    ap₂ (λ y ys. y ∷ ys) (is 0 x (omega arith))
    (read_at old places items (All-tail P place places within) (omega arith) (λ k d l. is (suc k) d (omega arith)))
    ∙ sym (ap (λ o. cons_option o (filter_map (slice_get old) places)) here)

-- after the last turn
pub AreArranged-all : {X : Type 0} (old : List X) (wanted : List ℕ) (items : List X) (places wanted_by : List ℕ)
    (i n : ℕ) → AreArranged old wanted items places wanted_by i → All (λ place. place < length old) wanted
    → length places ≤ i → n ≡ length places → take n items ≡ filter_map (slice_get old) wanted
AreArranged-all old wanted items places wanted_by i n a within all count =
    read_at old wanted (take n items) within (omega (arith, length-take n items, a.in_range, a.number))
    (λ k d l. get_or-take n items k d (omega (arith, a.number)) ∙ a.placed k d (omega (arith, a.number)))
