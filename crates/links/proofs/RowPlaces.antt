-- Rows in order, their named ids and their namers side by side.
use Rattle.std.proofs.Common.{◌≡◌, ◌⊎◌, ℕ, zero, suc, ◌+◌, ◌-◌, ◌<◌, ◌≤◌, Bool, true, false, not, ◌&&◌, ◌||◌, List, [], ◌∷◌, length, get_or, take, drop, map, filter, insert, Option, Some, None, Less, Equal, Greater, slice_get, bytes_eq, is_lt, nat_cmp, refl, sym, ap, ap₂, ◌∙◌, subst, inl, inr, length-take, length-drop, arith}
use Rattle.std.specs.List.{remove, AllPairs}
use Rattle.std.specs.List.Sorted.{IsSortedBy, IsPartitionPoint}
use Rattle.std.specs.Cmp.Lexicographic.{slice_cmp, nat_list_cmp_total}
use Rattle.std.specs.Ordering.{is_eq, ordering_reverse}
use Rattle.std.proofs.Math.Seq.{take-nil, drop-nil}
use Rattle.std.proofs.lemmas.Bool.{and_parts, and_from, or_cases, or_left, or_right, both_ways, cond-true, cond-false, false_from_ne_true, cases_lt}
use Rattle.std.proofs.lemmas.List.{get_or-take, get_or-drop}
use Rattle.std.proofs.lemmas.List.Elements.{filter_passes}
use Rattle.std.proofs.lemmas.List.Kept.{AllPairs-filter}
use Rattle.std.proofs.lemmas.Map.Lookups.{exact_bytes}
use Rattle.std.proofs.lemmas.Slice.Eq.{bytes_eq-Decides}
use Rattle.frac_keys.specs.Keys.{bytes_less}
use Rattle.frac_keys.specs.Rising.{ends_rise, rise_between, are_rising}
use Rattle.links.specs.declared.rows.LinkRow.{LinkRow}
use Rattle.links.specs.Rows.{is_for, namer_of, is_earlier, AreRowsRising, rows_at, AreRows}
use Rattle.links.specs.inner.Rows.{IsGapFor, IsRowAt, AreEndsOf}
use Rattle.links.proofs.Members.{bytes_eq-refl}
use Rattle.links.proofs.Sorting.{less-order, is_less, is_not_greater, not_greater-is, bytes_eq-cmp, turns-ordered, before_is, at_is, behind_is, less_is}

-- ---- the order of ids
pub less-itself : (a : List ℕ) → bytes_less a a ≡ false
less-itself a = false_from_ne_true (bytes_less a a) (λ t. both_ways (bytes_less a a) (less-order.one_way a a t) t)

eq-order : (a b : List ℕ) → is_eq (slice_cmp nat_cmp a b) ≡ true → a ≡ b
eq-order a b h = sym ((bytes_eq-Decides b a).0 (bytes_eq-cmp b a ∙ h))

greater-less : (a b : List ℕ) → slice_cmp nat_cmp a b ≡ Greater → bytes_less b a ≡ true
greater-less a b h = ap is_lt (nat_list_cmp_total.antisymm b a ∙ ap ordering_reverse h)

-- ---- where an id starts and ends
module _ (ids : List (List ℕ)) (id : List ℕ) (a b : ℕ) (l : a ≤ length ids) (m : b ≤ length ids)
    (start : IsPartitionPoint (λ x. is_less id x ≡ true) (λ x. is_less id x ≡ false) ids a)
    (end' : IsPartitionPoint (λ x. is_not_greater id x ≡ true) (λ x. is_not_greater id x ≡ false) ids b) where
  pub AreEndsOf-from : AreEndsOf ids id a b
  AreEndsOf-from = record {
    ordered = turns-ordered (is_less id) (is_not_greater id) (λ x. is_eq (slice_cmp nat_cmp x id))
        (λ x h. before_is _ h) (λ x h k. at_is _ h k) (λ x h. behind_is _ h) (λ x h. less_is _ h) ids a b l start
        end';
    within = m;
    less = λ k d below. start.0 k d (omega arith) below;
    same = λ k d from below. eq-order (get_or ids k d) id
        (at_is _ (start.1 k d from (omega (arith, below, m))) (end'.0 k d (omega arith) below));
    greater = λ k d from below.
        not_from_false' (bytes_less id (get_or ids k d)) (sym (not_greater-is id (get_or ids k d))
        ∙ end'.1 k d from below);
  } where
    not_from_false' : (x : Bool) → not x ≡ false → x ≡ true
    not_from_false' true h = refl
    not_from_false' false h = cc

-- ---- rows side by side
pub length-rows : (named namers : List (List ℕ)) → length namers ≡ length named
    → length (rows_at named namers) ≡ length named
length-rows [] namers h = refl
length-rows (x ∷ named) [] h = absurd (omega (arith, h))
length-rows (x ∷ named) (y ∷ namers) h = ap suc (length-rows named namers (omega (arith, h)))

pub get-rows : (named namers : List (List ℕ)) → length namers ≡ length named → (k : ℕ) (d : LinkRow)
    → get_or (rows_at named namers) k d ≡ record { named = get_or named k d.named; namer = get_or namers k d.namer }
get-rows [] [] h zero d = refl
get-rows [] [] h (suc k) d = refl
get-rows [] (y ∷ namers) h k d = absurd (omega (arith, h))
get-rows (x ∷ named) [] h k d = absurd (omega (arith, h))
get-rows (x ∷ named) (y ∷ namers) h zero d = refl
get-rows (x ∷ named) (y ∷ namers) h (suc k) d = get-rows named namers (omega (arith, h)) k d

pub at-rows : (named namers : List (List ℕ)) → length namers ≡ length named → (k : ℕ) (d e : List ℕ)
    → k < length named
    → slice_get (rows_at named namers) k ≡ Some (record { named = get_or named k d; namer = get_or namers k e })
at-rows [] namers h k d e l = absurd (omega (arith, l))
at-rows (x ∷ named) [] h k d e l = absurd (omega (arith, h))
at-rows (x ∷ named) (y ∷ namers) h zero d e l = refl
at-rows (x ∷ named) (y ∷ namers) h (suc k) d e l = at-rows named namers (omega (arith, h)) k d e (omega (arith, l))

pub rows-insert : (named namers : List (List ℕ)) → length namers ≡ length named → (i : ℕ) (a b : List ℕ)
    → rows_at (insert named i a) (insert namers i b)
    ≡ insert (rows_at named namers) i (record { named = a; namer = b })
rows-insert [] [] h zero a b = refl
rows-insert [] [] h (suc i) a b = refl
rows-insert [] (y ∷ namers) h i a b = absurd (omega (arith, h))
rows-insert (x ∷ named) [] h i a b = absurd (omega (arith, h))
rows-insert (x ∷ named) (y ∷ namers) h zero a b = refl
rows-insert (x ∷ named) (y ∷ namers) h (suc i) a b =
    ap (λ rows. record { named = x; namer = y } ∷ rows) (rows-insert named namers (omega (arith, h)) i a b)

pub rows-remove : (named namers : List (List ℕ)) → length namers ≡ length named → (i : ℕ)
    → rows_at (remove named i) (remove namers i) ≡ remove (rows_at named namers) i
rows-remove [] [] h zero = refl
rows-remove [] [] h (suc i) = refl
rows-remove [] (y ∷ namers) h i = absurd (omega (arith, h))
rows-remove (x ∷ named) [] h i = absurd (omega (arith, h))
rows-remove (x ∷ named) (y ∷ namers) h zero = refl
rows-remove (x ∷ named) (y ∷ namers) h (suc i) =
    ap (λ rows. record { named = x; namer = y } ∷ rows) (rows-remove named namers (omega (arith, h)) i)

-- ---- rows that rise
pub get-rows-length : (named namers : List (List ℕ)) → length namers ≡ length named → (k : ℕ) (d : LinkRow)
    → k < length (rows_at named namers) → k < length named
get-rows-length named namers h k d l = rw (sym (length-rows named namers h)) l

module _ (named namers : List (List ℕ)) (are : AreRows named namers) where
  earlier-at : (i j : ℕ) (d e : List ℕ) → i < j → j < length named
      → is_earlier (record { named = get_or named i d; namer = get_or namers i e })
      (record { named = get_or named j d; namer = get_or namers j e }) ≡ true
  earlier-at i j d e l m =
      let row : LinkRow = record { named = d; namer = e } in
      ap₂ is_earlier (sym (get-rows named namers are.full i row)) (sym (get-rows named namers are.full j row))
      ∙ are.rise i j row l (rw (length-rows named namers are.full) m)

  -- the named ids never fall
  pub named-sorted : IsSortedBy bytes_less named
  named-sorted k d low l =
      let here = get_or named k d in
      let next = get_or named (k + 1) d in
      elim (or_cases (bytes_less here next) (bytes_eq here next
      && bytes_less (get_or namers k d) (get_or namers (k + 1) d)) (earlier-at k (k + 1) d d (omega arith) l)) [
        | inl less ↦ less-order.one_way here next less
        | inr same ↦
            let equal = (bytes_eq-Decides here next).0 (and_parts (bytes_eq here next) _ same).0 in
            subst (λ x. bytes_less x here ≡ false) equal (less-itself here)
      ]

  module _ (row : LinkRow) (start end' : ℕ) (ends : AreEndsOf named row.named start end') where
    abbrev pub among : List (List ℕ)
    among = take (end' - start) (drop start namers)

    length-among : length among ≡ end' - start
    length-among = omega (
      arith,
      length-take (end' - start) (drop start namers),
      length-drop start namers,
      are.full,
      ends.within,
      ends.ordered,
    )

    get-among : (k : ℕ) (d : List ℕ) → k < end' - start → get_or among k d ≡ get_or namers (start + k) d
    get-among k d l = get_or-take (end' - start) (drop start namers) k d l ∙ get_or-drop start namers k d

    -- the namers of an id rise
    pub among-sorted : IsSortedBy (λ a b. is_lt (slice_cmp nat_cmp a b)) among
    among-sorted k d low l =
        let m : k + 1 < end' - start = omega (arith, l, length-among) in
        let here = get_or namers (start + k) d in
        let next = get_or namers (start + (k + 1)) d in
        let one : get_or named (start + k) d ≡ row.named =
        ends.same (start + k) d (omega arith) (omega (arith, m)) in
        let two : get_or named (start + (k + 1)) d ≡ row.named =
        ends.same (start + (k + 1)) d (omega arith) (omega (arith, m)) in
        let earlier : (bytes_less row.named row.named || (bytes_eq row.named row.named && bytes_less here next))
        ≡ true =
        ap₂ (λ a b. bytes_less a b || (bytes_eq a b && bytes_less here next)) (sym one) (sym two)
        ∙ earlier-at (start + k) (start + (k + 1)) d d (omega arith) (omega (arith, m, ends.within)) in
        let less : bytes_less here next ≡ true =
        elim (or_cases (bytes_less row.named row.named) (bytes_eq row.named row.named && bytes_less here next)
        earlier) [
          | inl wrong ↦ absurd (both_ways (bytes_less row.named row.named) (less-itself row.named) wrong)
          | inr both ↦ (and_parts (bytes_eq row.named row.named) (bytes_less here next) both).1
        ] in
        ap₂ bytes_less (get-among (k + 1) d m) (get-among k d (omega (arith, m))) ∙ less-order.one_way here next less

    pub found-at : (j : ℕ) → j < length among → slice_cmp nat_cmp (get_or among j []) row.namer ≡ Equal
        → IsRowAt (rows_at named namers) row (start + j)
    found-at j l equal =
        let m : j < end' - start = omega (arith, l, length-among) in
        let namer : get_or namers (start + j) [] ≡ row.namer =
        sym (get-among j [] m) ∙ exact_bytes (get_or among j []) row.namer equal in
        at-rows named namers are.full (start + j) [] [] (omega (arith, m, ends.within))
        ∙ ap₂ (λ a b. Some (record { named = a; namer = b }))
        (ends.same (start + j) [] (omega arith) (omega (arith, m))) namer

    namer-at : (k : ℕ) (d : List ℕ) → start ≤ k → k < end' → get_or among (k - start) d ≡ get_or namers k d
    namer-at k d from below =
        let e : start + (k - start) ≡ k = omega (arith, from) in
        get-among (k - start) d (omega (arith, from, below)) ∙ ap (λ n. get_or namers n d) e

    named-at : (k : ℕ) (d : LinkRow) → start ≤ k → k < end'
        → get_or (rows_at named namers) k d ≡ record { named = row.named; namer = get_or among (k - start) d.namer }
    named-at k d from below =
        get-rows named namers are.full k d
        ∙ ap₂ (λ a b. record { named = a; namer = b }) (ends.same k d.named from below)
        (sym (namer-at k d.namer from below))

    pub gap-at : (j : ℕ) → j ≤ length among
        → IsPartitionPoint (λ y. slice_cmp nat_cmp y row.namer ≡ Less) (λ y. slice_cmp nat_cmp y row.namer ≡ Greater)
        among j
        → IsGapFor (rows_at named namers) row (start + j)
    gap-at j l parted = record {
      in_range = omega (arith, l, length-among, ends.within, ends.ordered, length-rows named namers are.full);
      before = λ k d below.
          elim (cases_lt k start) [
            | inl less ↦ ap (λ (other : LinkRow). is_earlier other row) (get-rows named namers are.full k d)
                ∙ or_left _ _ (ends.less k d.named less)
            | inr from ↦
                let m : k < end' = omega (arith, below, from, l, length-among, ends.ordered) in
                ap (λ (other : LinkRow). is_earlier other row) (named-at k d from m)
                ∙ or_right _ _ (and_from _ _ (bytes_eq-refl row.named)
                (ap is_lt (parted.0 (k - start) d.namer (omega arith) (omega (arith, below, from)))))
          ];
      behind = λ k d from below.
          let m : k < length named = get-rows-length named namers are.full k d below in
          elim (cases_lt k end') [
            | inl less ↦
                let s : start ≤ k = omega (arith, from) in
                ap (is_earlier row) (named-at k d s less)
                ∙ or_right _ _ (and_from _ _ (bytes_eq-refl row.named)
                (greater-less (get_or among (k - start) d.namer) row.namer
                (parted.1 (k - start) d.namer (omega (arith, from)) (omega (arith, less, s, length-among)))))
            | inr over ↦ ap (is_earlier row) (get-rows named namers are.full k d)
                ∙ or_left _ _ (ends.greater k d.named over m)
          ];
    }

-- ---- the namers of an id
AreEndsOf-tail : (x : List ℕ) (named : List (List ℕ)) (id : List ℕ) (a b i j : ℕ) → i ≡ a - 1 → j ≡ b - 1 → 0 < b
    ⊎ (a ≡ 0) → AreEndsOf (x ∷ named) id a b → AreEndsOf named id i j
AreEndsOf-tail x named id a b i j is js some ends = record {
  ordered = omega (arith, is, js, ends.ordered);
  within = omega (arith, js, ends.within);
  less = λ k d l. ends.less (suc k) d (omega (arith, l, is));
  same = λ k d l m. ends.same (suc k) d (omega (arith, l, is)) (omega (arith, m, js));
  greater = λ k d l m. ends.greater (suc k) d (omega (arith, l, js)) (omega (arith, m));
}

other-less : (id x : List ℕ) → bytes_less x id ≡ true → bytes_eq id x ≡ false
other-less id x h = false_from_ne_true (bytes_eq id x)
    (λ t. both_ways (bytes_less x x) (less-itself x) (ap (bytes_less x) (sym ((bytes_eq-Decides id x).0 t)) ∙ h))

other-greater : (id x : List ℕ) → bytes_less id x ≡ true → bytes_eq id x ≡ false
other-greater id x h = false_from_ne_true (bytes_eq id x)
    (λ t. both_ways (bytes_less x x) (less-itself x) (ap (λ y. bytes_less y x) (sym ((bytes_eq-Decides id x).0 t))
    ∙ h))

pub namers-between : (named namers : List (List ℕ)) (id : List ℕ) (a b : ℕ) → length namers ≡ length named
    → AreEndsOf named id a b
    → take (b - a) (drop a namers) ≡ map namer_of (filter (is_for id) (rows_at named namers))
namers-between [] [] id a b full ends = ap (take (b - a)) (drop-nil a) ∙ take-nil (b - a)
namers-between [] (y ∷ namers) id a b full ends = absurd (omega (arith, full))
namers-between (x ∷ named) [] id a b full ends = absurd (omega (arith, full))
namers-between (x ∷ named) (y ∷ namers) id zero zero full ends =
    let row : LinkRow = record { named = x; namer = y } in
    namers-between named namers id 0 0 (omega (arith, full))
    (AreEndsOf-tail x named id 0 0 0 0 (omega arith) (omega arith) (inr refl) ends)
    ∙ ap (map namer_of) (sym (cond-false (is_for id row) (row ∷ filter (is_for id) (rows_at named namers))
    (filter (is_for id) (rows_at named namers))
    (other-greater id x (ends.greater 0 x (omega arith) (omega arith)))))
namers-between (x ∷ named) (y ∷ namers) id zero (suc b) full ends =
    let row : LinkRow = record { named = x; namer = y } in
    let e : suc b - 0 ≡ suc (b - 0) = omega arith in
    ap (λ n. take n (y ∷ namers)) e
    ∙ ap (λ ys. y ∷ ys) (namers-between named namers id 0 b (omega (arith, full))
    (AreEndsOf-tail x named id 0 (suc b) 0 b (omega arith) (omega arith) (inr refl) ends))
    ∙ ap (map namer_of) (sym (cond-true (is_for id row) (row ∷ filter (is_for id) (rows_at named namers))
    (filter (is_for id) (rows_at named namers))
    ((bytes_eq-Decides id x).1 (sym (ends.same 0 x (omega arith) (omega arith))))))
namers-between (x ∷ named) (y ∷ namers) id (suc a) zero full ends = absurd (omega (arith, ends.ordered))
namers-between (x ∷ named) (y ∷ namers) id (suc a) (suc b) full ends =
    let row : LinkRow = record { named = x; namer = y } in
    let e : suc b - suc a ≡ b - a = omega arith in
    ap (λ n. take n (drop a namers)) e
    ∙ namers-between named namers id a b (omega (arith, full))
    (AreEndsOf-tail x named id (suc a) (suc b) a b (omega arith) (omega arith) (inl (omega arith)) ends)
    ∙ ap (map namer_of) (sym (cond-false (is_for id row) (row ∷ filter (is_for id) (rows_at named namers))
    (filter (is_for id) (rows_at named namers)) (other-less id x (ends.less 0 x (omega arith)))))

-- and they rise
namers-rise : (low : Option (List ℕ)) (rows : List LinkRow)
    → ((k : ℕ) (d : LinkRow) → k < length rows → ends_rise low (Some (get_or rows k d).namer) ≡ true)
    → AllPairs (λ (row other : LinkRow). bytes_less row.namer other.namer ≡ true) rows
    → rise_between low None (map namer_of rows) ≡ true
namers-rise None [] low-less h = refl
namers-rise (Some low) [] low-less h = refl
namers-rise low (row ∷ rows) low-less h =
    and_from (ends_rise low (Some row.namer)) (rise_between (Some row.namer) None (map namer_of rows))
    (low-less 0 row (omega arith))
    (namers-rise (Some row.namer) rows (λ k d l. h 0 (suc k) d (omega arith) (omega (arith, l)))
    (λ i j d l m. h (suc i) (suc j) d (omega (arith, l)) (omega (arith, m))))

-- of two rows for one id the earlier one has the lesser namer
for-less : (id : List ℕ) (row other : LinkRow) → is_for id row ≡ true → is_for id other ≡ true
    → is_earlier row other ≡ true → bytes_less row.namer other.namer ≡ true
for-less id row other one two earlier =
    let same : row.named ≡ other.named =
    sym ((bytes_eq-Decides id row.named).0 one) ∙ (bytes_eq-Decides id other.named).0 two in
    elim (or_cases (bytes_less row.named other.named) (bytes_eq row.named other.named
    && bytes_less row.namer other.namer) earlier) [
      | inl less ↦ absurd (both_ways (bytes_less other.named other.named) (less-itself other.named)
          (ap (λ n. bytes_less n other.named) (sym same) ∙ less))
      | inr both ↦ (and_parts (bytes_eq row.named other.named) (bytes_less row.namer other.namer) both).1
    ]

pub namers-rising : (rows : List LinkRow) (id : List ℕ) → AreRowsRising rows
    → are_rising (map namer_of (filter (is_for id) rows)) ≡ true
namers-rising rows id rise =
    let those = filter (is_for id) rows in
    let of_id = filter_passes (is_for id) rows in
    namers-rise None those (λ k d l. refl)
    (λ i j d l m. for-less id (get_or those i d) (get_or those j d) (of_id i d (omega (arith, l, m))) (of_id j d m)
    (AllPairs-filter (λ row other. is_earlier row other ≡ true) (is_for id) rows rise i j d l m))
