-- Rows in the order of their ids.
use Rattle.std.proofs.Common.{◌≡◌, ◌≢◌, ℕ, zero, suc, ◌-◌, ◌<◌, ◌≤◌, Bool, true, false, cond, not, ◌&&◌, List, [], ◌∷◌, length, get_or, take, drop, filter, map, Ordering, is_lt, nat_cmp, nat_eq, ltb, leb, bytes_eq, refl, sym, ap, subst, ◌∙◌, arith, None}
use Rattle.std.specs.List.Sorted.{IsNonDecreasing, IsSortedBy, IsStableBy, IsPartitionedBy, IsPartitionPoint, ties}
use Rattle.std.specs.Cmp.{IsStrictWeakOrder}
use Rattle.std.specs.Cmp.Lexicographic.{slice_cmp, nat_list_cmp_total, texts_ties}
use Rattle.std.specs.Ordering.{is_eq, is_le, ordering_reverse, ordering_then}
use Rattle.std.specs.declared.cmp.Ordering.TheVariants.{Less, Equal, Greater}
use Rattle.std.proofs.lemmas.Bool.{both_ways, true_from_ne_false, false_from_ne_true, not-true, not_from_false, cond-true, cond-false, eq-eqb, lt-ltb, le-ltb, ltb-true, ltb-false, le-leb, lt-leb, leb-true, leb-false}
use Rattle.std.proofs.lemmas.List.{length-map, get_or-map}
use Rattle.std.proofs.lemmas.List.Elements.{filter_agree}
use Rattle.std.proofs.lemmas.List.Kept.{IsSortedBy-filter}
use Rattle.std.proofs.lemmas.List.Sorted.{ranks_by, sorted_far, IsNonDecreasingBy-from_sort}
use Rattle.std.proofs.lemmas.Slice.Eq.{bytes_eq-Decides}
use Rattle.std.proofs.Math.ListN.{get_or-map as get_or_map}
use Rattle.std.proofs.Math.Seq.{take-nil, drop-nil}
use Rattle.elem.specs.ElementValue.{ElementValue}
use Rattle.elem.specs.declared.kind.Kind.TheVariants.{Rectangle}
use Rattle.links.specs.declared.table.Row.{Row}
use Rattle.links.specs.Tables.{is_under}
use Rattle.links.specs.inner.Keys.{front_number, rank}
use Rattle.links.specs.inner.Tables.{row_front, row_less, AreOrdered}

-- ---- what lies between the places where two tests of a list turn
module _ {X : Type 0} (below up_to among : X → Bool)
    (before : (x : X) → below x ≡ true → among x ≡ false) (at' : (x : X) → below x ≡ false → up_to x ≡ true
    → among x ≡ true)
    (behind : (x : X) → up_to x ≡ false → among x ≡ false) (less : (x : X) → below x ≡ true → up_to x ≡ true) where
  turns_tail : (p : X → Bool) (x : X) (xs : List X) (i j : ℕ) → j ≡ i - 1
      → IsPartitionPoint (λ y. p y ≡ true) (λ y. p y ≡ false) (x ∷ xs) i
      → IsPartitionPoint (λ y. p y ≡ true) (λ y. p y ≡ false) xs j
  turns_tail p x xs i j is h =
      (λ k d l m. h.0 (suc k) d (omega arith) (omega arith), λ k d l m. h.1 (suc k) d (omega arith) (omega arith))

  pub between-filter : (xs : List X) (a b : ℕ)
      → IsPartitionPoint (λ y. below y ≡ true) (λ y. below y ≡ false) xs a
      → IsPartitionPoint (λ y. up_to y ≡ true) (λ y. up_to y ≡ false) xs b
      → take (b - a) (drop a xs) ≡ filter among xs
  between-filter [] a b f g = ap (take (b - a)) (drop-nil a) ∙ take-nil (b - a)
  between-filter (x ∷ xs) zero zero f g =
      between-filter xs 0 0 (turns_tail below x xs 0 0 (omega arith) f) (turns_tail up_to x xs 0 0 (omega arith) g)
      ∙ sym (cond-false (among x) (x ∷ filter among xs) (filter among xs)
      (behind x (g.1 0 x (omega arith) (omega arith))))
  between-filter (x ∷ xs) zero (suc b) f g =
      let e : suc b - 0 ≡ suc (b - 0) = omega arith in
      ap (λ n. take n (x ∷ xs)) e
      ∙ ap (λ ys. x ∷ ys) (between-filter xs 0 b (turns_tail below x xs 0 0 (omega arith) f)
      (turns_tail up_to x xs (suc b) b (omega arith) g))
      ∙ sym (cond-true (among x) (x ∷ filter among xs) (filter among xs)
      (at' x (f.1 0 x (omega arith) (omega arith)) (g.0 0 x (omega arith) (omega arith))))
  between-filter (x ∷ xs) (suc a) zero f g =
      absurd (both_ways (up_to x) (g.1 0 x (omega arith) (omega arith)) (less x (f.0 0 x (omega arith) (omega arith))))
  between-filter (x ∷ xs) (suc a) (suc b) f g =
      let e : suc b - suc a ≡ b - a = omega arith in
      ap (λ n. take n (drop a xs)) e
      ∙ between-filter xs a b (turns_tail below x xs (suc a) a (omega arith) f)
      (turns_tail up_to x xs (suc b) b (omega arith) g)
      ∙ sym (cond-false (among x) (x ∷ filter among xs) (filter among xs)
      (before x (f.0 0 x (omega arith) (omega arith))))

  pub turns-ordered : (xs : List X) (a b : ℕ) → a ≤ length xs
      → IsPartitionPoint (λ y. below y ≡ true) (λ y. below y ≡ false) xs a
      → IsPartitionPoint (λ y. up_to y ≡ true) (λ y. up_to y ≡ false) xs b → a ≤ b
  turns-ordered [] zero b l f g = omega arith
  turns-ordered [] (suc a) b l f g = absurd (omega arith)
  turns-ordered (x ∷ xs) zero b l f g = omega arith
  turns-ordered (x ∷ xs) (suc a) zero l f g =
      absurd (both_ways (up_to x) (g.1 0 x (omega arith) (omega arith)) (less x (f.0 0 x (omega arith) (omega arith))))
  turns-ordered (x ∷ xs) (suc a) (suc b) l f g =
      let m = turns-ordered xs a b (omega arith) (turns_tail below x xs (suc a) a (omega arith) f)
      (turns_tail up_to x xs (suc b) b (omega arith) g) in
      omega arith

-- ---- the order of rows
pub less-order : IsStrictWeakOrder (λ a b. is_lt (slice_cmp nat_cmp a b))
less-order = ranks_by nat_list_cmp_total (λ a. a)

pub row_less-order : IsStrictWeakOrder row_less
row_less-order = ranks_by nat_list_cmp_total (λ (row : Row). rank row.key)

le_is : (o : Ordering) → is_le o ≡ not (is_lt (ordering_reverse o))
le_is Less = refl
le_is Equal = refl
le_is Greater = refl

-- whether an id is less than another one, and whether it isn't greater
abbrev pub is_less : List ℕ → List ℕ → Bool
is_less key id = is_lt (slice_cmp nat_cmp id key)

abbrev pub is_not_greater : List ℕ → List ℕ → Bool
is_not_greater key id = is_le (slice_cmp nat_cmp id key)

pub not_greater-is : (key id : List ℕ) → is_not_greater key id ≡ not (is_lt (slice_cmp nat_cmp key id))
not_greater-is key id =
    le_is (slice_cmp nat_cmp id key) ∙ ap (λ o. not (is_lt o)) (sym (nat_list_cmp_total.antisymm key id))

-- things in the order of their ids
module _ {X : Type 0} (id_of : X → List ℕ) (xs : List X) (key : List ℕ)
    (up : IsSortedBy (λ x y. is_lt (slice_cmp nat_cmp (id_of x) (id_of y))) xs) where
  rises : (i j : ℕ) (d : X) → i ≤ j → j < length xs
      → is_lt (slice_cmp nat_cmp (id_of (get_or xs j d)) (id_of (get_or xs i d))) ≡ false
  rises i j d l m = sorted_far (λ x y. is_lt (slice_cmp nat_cmp (id_of x) (id_of y)))
      (ranks_by nat_list_cmp_total id_of) xs up i j d l m

  pub less-partitioned : IsPartitionedBy (λ x. is_less key (id_of x)) xs
  less-partitioned i j d l m h =
      true_from_ne_false (is_less key (id_of (get_or xs i d)))
      (λ no. both_ways (is_less key (id_of (get_or xs j d)))
      (less-order.chain (id_of (get_or xs j d)) (id_of (get_or xs i d)) key (rises i j d l m) no) h)

  pub not_greater-partitioned : IsPartitionedBy (λ x. is_not_greater key (id_of x)) xs
  not_greater-partitioned i j d l m h =
      let not_less = not-true _ (sym (not_greater-is key (id_of (get_or xs j d))) ∙ h) in
      not_greater-is key (id_of (get_or xs i d))
      ∙ not_from_false _ (less-order.chain key (id_of (get_or xs j d)) (id_of (get_or xs i d)) not_less
      (rises i j d l m))

-- whether a row stands before the rows of an id, and whether it doesn't stand behind them
abbrev pub is_below : List ℕ → Row → Bool
is_below key row = is_less (rank key) (rank row.key)

abbrev pub is_up_to : List ℕ → Row → Bool
is_up_to key row = is_not_greater (rank key) (rank row.key)

pub below-partitioned : (rows : List Row) (key : List ℕ) → IsSortedBy row_less rows
    → IsPartitionedBy (is_below key) rows
below-partitioned rows key up = less-partitioned (λ (row : Row). rank row.key) rows (rank key) up

pub up_to-partitioned : (rows : List Row) (key : List ℕ) → IsSortedBy row_less rows
    → IsPartitionedBy (is_up_to key) rows
up_to-partitioned rows key up = not_greater-partitioned (λ (row : Row). rank row.key) rows (rank key) up

pub before_is : (o : Ordering) → is_lt o ≡ true → is_eq o ≡ false
before_is o h = grind arith

pub at_is : (o : Ordering) → is_lt o ≡ false → is_le o ≡ true → is_eq o ≡ true
at_is o h k = grind arith

pub behind_is : (o : Ordering) → is_le o ≡ false → is_eq o ≡ false
behind_is o h = grind arith

pub less_is : (o : Ordering) → is_lt o ≡ true → is_le o ≡ true
less_is o h = grind arith

turned_eq : (o : Ordering) → is_eq (ordering_reverse o) ≡ is_eq o
turned_eq Less = refl
turned_eq Equal = refl
turned_eq Greater = refl

pub bytes_eq-cmp : (a b : List ℕ) → bytes_eq a b ≡ is_eq (slice_cmp nat_cmp b a)
bytes_eq-cmp a b = texts_ties a b ∙ ap is_eq (nat_list_cmp_total.antisymm a b) ∙ turned_eq (slice_cmp nat_cmp b a)

-- Two ids are equal exactly if they are equal behind the numbers of their fronts.
rank-ties : (key id : List ℕ) (b : Bool) → bytes_eq key id ≡ b
    → b ≡ (nat_eq (front_number key) (front_number id) && b)
rank-ties key id true h =
    sym (ap (λ b. b && true) (eq-eqb (front_number key) (front_number id)
    (ap front_number ((bytes_eq-Decides key id).0 h))))
rank-ties key id false h =
    elim (nat_eq (front_number key) (front_number id)) as (λ b. false ≡ (b && false)) [ true ↦ refl | false ↦ refl ]

under_is : (key : List ℕ) (row : Row) → is_under key row ≡ is_eq (slice_cmp nat_cmp (rank row.key) (rank key))
under_is key row = rank-ties key row.key (bytes_eq key row.key) refl ∙ bytes_eq-cmp (rank key) (rank row.key)

module _ (rows : List Row) (key : List ℕ) (a b : ℕ)
    (start : IsPartitionPoint (λ row. is_below key row ≡ true) (λ row. is_below key row ≡ false) rows a)
    (end' : IsPartitionPoint (λ row. is_up_to key row ≡ true) (λ row. is_up_to key row ≡ false) rows b) where
  pub rows-between : take (b - a) (drop a rows) ≡ filter (is_under key) rows
  rows-between =
      between-filter (is_below key) (is_up_to key) (λ row. is_eq (slice_cmp nat_cmp (rank row.key) (rank key)))
      (λ row h. before_is _ h) (λ row h k. at_is _ h k) (λ row h. behind_is _ h) (λ row h. less_is _ h) rows a b start
      end'
      ∙ filter_agree (λ row. is_eq (slice_cmp nat_cmp (rank row.key) (rank key))) (is_under key)
      (λ row. sym (under_is key row)) rows

  pub rows-ordered : a ≤ length rows → a ≤ b
  rows-ordered l =
      turns-ordered (is_below key) (is_up_to key) (λ row. is_eq (slice_cmp nat_cmp (rank row.key) (rank key)))
      (λ row h. before_is _ h) (λ row h k. at_is _ h k) (λ row h. behind_is _ h) (λ row h. less_is _ h) rows a b l start
      end'

-- where no row behind the lesser ones has the id, both tests turn there
pub absent-point : (rows : List Row) (key : List ℕ) (a : ℕ) → IsSortedBy row_less rows
    → IsPartitionPoint (λ row. is_below key row ≡ true) (λ row. is_below key row ≡ false) rows a
    → ((d : Row) → a < length rows → is_up_to key (get_or rows a d) ≡ false)
    → IsPartitionPoint (λ row. is_up_to key row ≡ true) (λ row. is_up_to key row ≡ false) rows a
absent-point rows key a up start behind = (
  λ k d l m. less_is _ (start.0 k d l m),
  λ k d l m. false_from_ne_true (is_up_to key (get_or rows k d))
      (λ h. both_ways _ (behind d (omega (arith, l, m))) (up_to-partitioned rows key up a k d l m h)),
)

-- ---- rows of one front
blank : ElementValue
blank = record {
  id = [];
  kind = Rectangle;
  version = 0;
  nonce = 0;
  updated = 0;
  deleted = false;
  index = None;
  groups = [];
  frame = None;
  bound = [];
  container = None;
  start_binding = None;
  end_binding = None;
  file = None;
  rest = [];
}

row_at : List ℕ → Row
row_at key = record { key = key; element = record { ref_ptr = (0, 0); now = blank } }

less_first : (o p : Ordering) → is_lt (ordering_then o p) ≡ false → is_lt o ≡ false
less_first Less p h = h
less_first Equal p h = refl
less_first Greater p h = refl

pub fronts-rise : (fronts : List ℕ) (rows : List Row) → AreOrdered fronts rows → IsNonDecreasing fronts
fronts-rise fronts rows are =
    let rise = IsNonDecreasingBy-from_sort row_front rows (λ k d l m. less_first _ _ (are.ordered k d l m)) in
    subst IsNonDecreasing (sym are.beside) (λ i j d l m.
    let short : j < length rows = subst (λ n. j < n) (length-map rows row_front) m in
    subst (λ n. n ≤ get_or (map row_front rows) j d)
    (sym (get_or-map row_front rows i (row_at []) d (omega (arith, l, short))))
    (subst (λ n. row_front (get_or rows i (row_at [])) ≤ n) (sym (get_or-map row_front rows j (row_at []) d short))
    (rise i j (row_at []) l short)))

before_front : (n m : ℕ) → ltb n m ≡ true → nat_eq n m ≡ false
before_front n m h = let l = ltb-true n m h in grind arith

at_front : (n m : ℕ) → ltb n m ≡ false → leb n m ≡ true → nat_eq n m ≡ true
at_front n m h k = let l = ltb-false n m h in let u = leb-true n m k in eq-eqb n m (omega arith)

behind_front : (n m : ℕ) → leb n m ≡ false → nat_eq n m ≡ false
behind_front n m h = let l = leb-false n m h in grind arith

less_front : (n m : ℕ) → ltb n m ≡ true → leb n m ≡ true
less_front n m h = let l = ltb-true n m h in le-leb n m (omega arith)

module _ (fronts : List ℕ) (front i : ℕ) where
  pub start-point : IsPartitionPoint (λ other. ltb other front ≡ true) (λ other. ltb other front ≡ false) fronts i
      → IsPartitionPoint (λ other. other < front) (λ other. front ≤ other) fronts i
  start-point h = (λ k d l m. ltb-true _ _ (h.0 k d l m), λ k d l m. ltb-false _ _ (h.1 k d l m))

  pub end-point : IsPartitionPoint (λ other. leb other front ≡ true) (λ other. leb other front ≡ false) fronts i
      → IsPartitionPoint (λ other. other ≤ front) (λ other. front < other) fronts i
  end-point h = (λ k d l m. leb-true _ _ (h.0 k d l m), λ k d l m. leb-false _ _ (h.1 k d l m))

  pub points-ordered : (j : ℕ) → i ≤ length fronts
      → IsPartitionPoint (λ other. ltb other front ≡ true) (λ other. ltb other front ≡ false) fronts i
      → IsPartitionPoint (λ other. leb other front ≡ true) (λ other. leb other front ≡ false) fronts j → i ≤ j
  points-ordered j l start end' =
      turns-ordered (λ n. ltb n front) (λ n. leb n front) (λ n. nat_eq n front) (λ n h. before_front n front h)
      (λ n h k. at_front n front h k) (λ n h. behind_front n front h) (λ n h. less_front n front h) fronts i j l start
      end'

  -- where no number is this one, they start and end at the same place
  pub absent-front : IsNonDecreasing fronts
      → IsPartitionPoint (λ other. other < front) (λ other. front ≤ other) fronts i
      → ((d : ℕ) → i < length fronts → get_or fronts i d ≢ front)
      → IsPartitionPoint (λ other. other ≤ front) (λ other. front < other) fronts i
  absent-front rise start apart = (
    λ k d l m. let below = start.0 k d l m in omega arith,
    λ k d l m.
        let first : i < length fronts = omega (arith, l, m) in
        let up = start.1 i d (omega arith) first in
        let far = rise i k d l m in
        let other = apart d first in
        grind arith,
  )

abbrev pub has_front : ℕ → Row → Bool
has_front front row = nat_eq (row_front row) front

-- where the fronts that are this one start and end
module _ (fronts : List ℕ) (rows : List Row) (are : AreOrdered fronts rows) (front a b : ℕ)
    (start : IsPartitionPoint (λ other. other < front) (λ other. front ≤ other) fronts a)
    (end' : IsPartitionPoint (λ other. other ≤ front) (λ other. front < other) fronts b) where
  as_many : length fronts ≡ length rows
  as_many = ap length are.beside ∙ length-map rows row_front

  front_at : (k : ℕ) (d : Row) → get_or fronts k (row_front d) ≡ row_front (get_or rows k d)
  front_at k d = ap (λ ns. get_or ns k (row_front d)) are.beside ∙ get_or_map row_front rows k d

  start_row : IsPartitionPoint (λ row. ltb (row_front row) front ≡ true) (λ row. ltb (row_front row) front ≡ false)
      rows a
  start_row = (
    λ k d l m. lt-ltb _ _ (subst (λ n. n < front) (front_at k d) (start.0 k (row_front d) l m)),
    λ k d l m. le-ltb _ _ (subst (λ n. front ≤ n) (front_at k d) (start.1 k (row_front d) l
        (subst (λ n. k < n) (sym as_many) m))),
  )

  end_row : IsPartitionPoint (λ row. leb (row_front row) front ≡ true) (λ row. leb (row_front row) front ≡ false)
      rows b
  end_row = (
    λ k d l m. le-leb _ _ (subst (λ n. n ≤ front) (front_at k d) (end'.0 k (row_front d) l m)),
    λ k d l m. lt-leb _ _ (subst (λ n. front < n) (front_at k d) (end'.1 k (row_front d) l
        (subst (λ n. k < n) (sym as_many) m))),
  )

  pub front-between : take (b - a) (drop a rows) ≡ filter (has_front front) rows
  front-between =
      between-filter (λ row. ltb (row_front row) front) (λ row. leb (row_front row) front) (has_front front)
      (λ row h. before_front _ _ h) (λ row h k. at_front _ _ h k) (λ row h. behind_front _ _ h)
      (λ row h. less_front _ _ h) rows a b start_row end_row

  pub front-sorted : IsSortedBy row_less (take (b - a) (drop a rows))
  front-sorted =
      subst (IsSortedBy row_less) (sym front-between)
      (IsSortedBy-filter row_less row_less-order (has_front front) rows are.ordered)

filter-within : {X : Type 0} (p q : X → Bool) → ((x : X) → q x ≡ true → p x ≡ true) → (xs : List X)
    → filter q (filter p xs) ≡ filter q xs
filter-within p q h [] = refl
filter-within p q h (x ∷ xs) = step (p x) refl (filter-within p q h xs) where
  step : (b : Bool) → p x ≡ b → filter q (filter p xs) ≡ filter q xs
      → filter q (cond b (x ∷ filter p xs) (filter p xs)) ≡ filter q (x ∷ xs)
  step true is rest = ap (λ ys. cond (q x) (x ∷ ys) ys) rest
  step false is rest =
      rest ∙ sym (cond-false (q x) (x ∷ filter q xs) (filter q xs)
      (false_from_ne_true (q x) (λ t. both_ways (p x) is (h x t))))

-- the rows of an id are among those of its front
pub front-under : (key : List ℕ) (rows : List Row)
    → filter (is_under key) (filter (has_front (front_number key)) rows) ≡ filter (is_under key) rows
front-under key rows =
    filter-within (has_front (front_number key)) (is_under key)
    (λ row h. eq-eqb (row_front row) (front_number key) (sym (ap front_number ((bytes_eq-Decides key row.key).0 h))))
    rows

-- ---- rows of one id keep their order
ties_are : (o : Ordering) → (not (is_lt (ordering_reverse o)) && not (is_lt o)) ≡ is_eq o
ties_are Less = refl
ties_are Equal = refl
ties_are Greater = refl

ties-under : (key : List ℕ) (row : Row) → ties row_less (row_at key) row ≡ is_under key row
unfolding row_at
ties-under key row =
    ap (λ o. not (is_lt o) && not (is_lt (slice_cmp nat_cmp (rank row.key) (rank key))))
    (nat_list_cmp_total.antisymm (rank key) (rank row.key))
    ∙ ties_are (slice_cmp nat_cmp (rank row.key) (rank key)) ∙ sym (under_is key row)

pub kept-under : (rows new : List Row) → IsStableBy row_less rows new → (key : List ℕ)
    → filter (is_under key) new ≡ filter (is_under key) rows
kept-under rows new stable key =
    sym (filter_agree (ties row_less (row_at key)) (is_under key) (ties-under key) new)
    ∙ stable (row_at key) ∙ filter_agree (ties row_less (row_at key)) (is_under key) (ties-under key) rows
