-- Late places among settled ones: how many there are, what stands where, and what one more makes of it.
use Rattle.std.proofs.Common.{◌≡◌, ℕ, zero, suc, ◌+◌, ◌-◌, ◌<◌, ◌≤◌, ◌≢◌, List, [], ◌∷◌, ◌++◌, length, get_or, take, drop, set, Some, slice_get, insert, All, refl, sym, ap, ap₂, ◌∙◌, arith, append_assoc, take-take, inl, inr}
use Rattle.std.specs.List.Sorted.{IsNonDecreasingBy}
use Rattle.std.proofs.lemmas.Bool.{cases_order}
use Rattle.std.proofs.lemmas.List.{get_or_default, get_or_append_left, get_or_at, take-append-le, take-set-le, drop-set, drop_at, drop-take, length-take-le, length-append, length_push}
use Rattle.std.proofs.lemmas.List.Edits.{length-insert, insert-append_left}
use Rattle.std.proofs.lemmas.List.Elements.{All-head, All-tail, All-cons, All-take, All-drop, All-append}
use Rattle.std.proofs.lemmas.List.Sorted.{IsNonDecreasingBy-insert}
use Rattle.std.proofs.lemmas.Option.{slice_get-get_or}
use Rattle.elem_store.specs.declared.indexed.Late.{Late}
use Rattle.elem_store.specs.inner.Indexed.{woven, AreAside, AreGaps, AreBefore}

abbrev pub AllWithin : ℕ → List Late → Type 0
AllWithin count late = All (λ (l : Late). l.gap ≤ count) late

abbrev pub AreRising : List Late → Type 0
AreRising late = IsNonDecreasingBy (λ (l : Late). l.gap) late

within-head : (count : ℕ) (l : Late) (late : List Late) → AllWithin count (l ∷ late) → l.gap ≤ count
within-head count l late h = All-head (λ (l : Late). l.gap ≤ count) l late h

within-tail : (count : ℕ) (l : Late) (late : List Late) → AllWithin count (l ∷ late) → AllWithin count late
within-tail count l late h = All-tail (λ (l : Late). l.gap ≤ count) l late h

-- a place at an index of a list, and one before or behind it
get-insert_below : (xs : List ℕ) (a i p : ℕ) → i < a → a ≤ length xs → slice_get (insert xs a p) i ≡ slice_get xs i
get-insert_below xs zero i p l le = absurd (omega arith)
get-insert_below [] (suc a) i p l le = absurd (omega arith)
get-insert_below (x ∷ xs) (suc a) zero p l le = refl
get-insert_below (x ∷ xs) (suc a) (suc i) p l le = get-insert_below xs a i p (omega arith) (omega arith)

get-insert_at : (xs : List ℕ) (a p : ℕ) → a ≤ length xs → slice_get (insert xs a p) a ≡ Some p
get-insert_at xs zero p le = refl
get-insert_at [] (suc a) p le = absurd (omega arith)
get-insert_at (x ∷ xs) (suc a) p le = get-insert_at xs a p (omega arith)

get-insert_above : (xs : List ℕ) (a i p : ℕ) → a ≤ i → a ≤ length xs
    → slice_get (insert xs a p) (suc i) ≡ slice_get xs i
get-insert_above xs zero i p le m = refl
get-insert_above [] (suc a) i p le m = absurd (omega arith)
get-insert_above (x ∷ xs) (suc a) zero p le m = absurd (omega arith)
get-insert_above (x ∷ xs) (suc a) (suc i) p le m = get-insert_above xs a i p (omega arith) (omega arith)

insert-insert : (xs : List ℕ) (a b p q : ℕ) → a ≤ b → b ≤ length xs
    → insert (insert xs b p) a q ≡ insert (insert xs a q) (suc b) p
insert-insert xs zero b p q le m = refl
insert-insert [] (suc a) b p q le m = absurd (omega arith)
insert-insert (x ∷ xs) (suc a) zero p q le m = absurd (omega arith)
insert-insert (x ∷ xs) (suc a) (suc b) p q le m =
    ap (λ ys. x ∷ ys) (insert-insert xs a b p q (omega arith) (omega arith))

module _ (settled : List ℕ) where
  pub length-woven : (late : List Late) → AllWithin (length settled) late
      → length (woven settled late) ≡ length settled + length late
  length-woven [] h = omega arith
  length-woven (l ∷ late) h =
      let rest = length-woven late (within-tail (length settled) l late h) in
      let low = within-head (length settled) l late h in
      omega (arith, length-insert (woven settled late) l.gap l.place (omega arith))

  gap-within : (l : Late) (late : List Late) → AllWithin (length settled) (l ∷ late)
      → l.gap ≤ length (woven settled late)
  gap-within l late h =
      omega (arith, within-head (length settled) l late h, length-woven late (within-tail (length settled) l late h))

  -- before all late places the settled ones stand as they are
  get-before : (late : List Late) (i : ℕ) → AllWithin (length settled) late
      → ((k : ℕ) (d : Late) → k < length late → i < (get_or late k d).gap)
      → slice_get (woven settled late) i ≡ slice_get settled i
  get-before [] i h before = refl
  get-before (l ∷ late) i h before =
      get-insert_below (woven settled late) l.gap i l.place (before 0 l (omega arith)) (gap-within l late h)
      ∙ get-before late i (within-tail (length settled) l late h) (λ k d m. before (suc k) d (omega arith))

  -- a settled place, with so many late ones before it
  pub get-settled : (late : List Late) (i j : ℕ) → AllWithin (length settled) late → AreRising late → j ≤ length late
      → ((k : ℕ) (d : Late) → k < j → (get_or late k d).gap + k < i)
      → ((k : ℕ) (d : Late) → j ≤ k → k < length late → i < (get_or late k d).gap + k)
      → slice_get (woven settled late) i ≡ slice_get settled (i - j)
  get-settled [] i zero h rising le before after =
      let same : i ≡ i - 0 = omega arith in
      ap (slice_get settled) same
  get-settled [] i (suc j) h rising le before after = absurd (omega arith)
  get-settled (l ∷ late) i zero h rising le before after =
      let first : i < l.gap = omega (arith, after 0 l (omega arith) (omega arith)) in
      let same : i ≡ i - 0 = omega arith in
      get-insert_below (woven settled late) l.gap i l.place first (gap-within l late h)
      ∙ get-before late i (within-tail (length settled) l late h)
      (λ k d m. omega (arith, rising 0 (suc k) d (omega arith) (omega arith)))
      ∙ ap (slice_get settled) same
  get-settled (l ∷ late) zero (suc j) h rising le before after = absurd (omega (arith, before 0 l (omega arith)))
  get-settled (l ∷ late) (suc i) (suc j) h rising le before after =
      let same : i - j ≡ suc i - suc j = omega arith in
      get-insert_above (woven settled late) l.gap i l.place (omega (arith, before 0 l (omega arith)))
      (gap-within l late h)
      ∙ get-settled late i j (within-tail (length settled) l late h)
      (λ a b d m n. rising (suc a) (suc b) d (omega arith) (omega arith)) (omega arith)
      (λ k d m. omega (arith, before (suc k) d (omega arith)))
      (λ k d m n. omega (arith, after (suc k) d (omega arith) (omega arith)))
      ∙ ap (slice_get settled) same

  -- a late place, with so many others before it
  pub get-late : (late : List Late) (i j : ℕ) (d : Late) → AllWithin (length settled) late → j < length late
      → ((k : ℕ) (d : Late) → k < j → (get_or late k d).gap + k < i) → (get_or late j d).gap + j ≡ i
      → slice_get (woven settled late) i ≡ Some (get_or late j d).place
  get-late [] i j d h m before here = absurd (omega arith)
  get-late (l ∷ late) i zero d h m before here =
      let same : i ≡ l.gap = omega arith in
      ap (slice_get (insert (woven settled late) l.gap l.place)) same
      ∙ get-insert_at (woven settled late) l.gap l.place (gap-within l late h)
  get-late (l ∷ late) zero (suc j) d h m before here = absurd (omega arith)
  get-late (l ∷ late) (suc i) (suc j) d h m before here =
      get-insert_above (woven settled late) l.gap i l.place (omega (arith, before 0 l (omega arith)))
      (gap-within l late h)
      ∙ get-late late i j d (within-tail (length settled) l late h) (omega arith)
      (λ k e n. omega (arith, before (suc k) e (omega arith))) (omega arith)

  -- one more late place, with so many others before it
  woven-insert : (late : List Late) (j : ℕ) (l : Late) → AllWithin (length settled) late → l.gap ≤ length settled
      → j ≤ length late → ((k : ℕ) (d : Late) → k < j → (get_or late k d).gap + k < l.gap + j)
      → woven settled (insert late j l) ≡ insert (woven settled late) (l.gap + j) l.place
  woven-insert late zero l h low le before =
      let here : l.gap ≡ l.gap + 0 = omega arith in
      ap (λ i. insert (woven settled late) i l.place) here
  woven-insert [] (suc j) l h low le before = absurd (omega arith)
  woven-insert (x ∷ late) (suc j) l h low le before =
      let count = length-woven late (within-tail (length settled) x late h) in
      let first : x.gap ≤ l.gap + j = omega (arith, before 0 x (omega arith)) in
      let bound : l.gap + j ≤ length (woven settled late) = omega arith in
      let next : suc (l.gap + j) ≡ l.gap + suc j = omega arith in
      ap (λ xs. insert xs x.gap x.place) (woven-insert late j l (within-tail (length settled) x late h) low
      (omega arith) (λ k d m. omega (arith, before (suc k) d (omega arith))))
      ∙ insert-insert (woven settled late) x.gap (l.gap + j) l.place x.place first bound
      ∙ ap (λ i. insert (insert (woven settled late) x.gap x.place) i l.place) next

-- what is found at the middle of late places is so before it, or from it on
module _ (late : List Late) (i m : ℕ) (x : Late) (rising : AreRising late) (within : m < length late) (here : x
    ≡ get_or late m x) where
  pub before-middle : x.gap + m < i → (k : ℕ) (d : Late) → k < m + 1 → (get_or late k d).gap + k < i
  before-middle l k d n =
      let same = ap (λ (y : Late). y.gap) (get_or_default late k d x (omega arith)) in
      let found = ap (λ (y : Late). y.gap) here in
      omega (arith, rising k m x (omega arith) within)

  pub after-middle : i ≤ x.gap + m → (k : ℕ) (d : Late) → m ≤ k → k < length late → i ≤ (get_or late k d).gap + k
  after-middle l k d n o =
      let same = ap (λ (y : Late). y.gap) (get_or_default late k d x o) in
      let found = ap (λ (y : Late). y.gap) here in
      omega (arith, rising m k x n o)

-- so many late places before an index of all are no more than it
pub before-index : (late : List Late) (i j : ℕ) → j ≤ length late
    → ((k : ℕ) (d : Late) → k < j → (get_or late k d).gap + k < i) → j ≤ i
before-index late i zero le before = omega arith
before-index late i (suc j) le before = omega (arith, before j (record { gap = 0; place = 0 }) (omega arith))

module _ (late : List Late) (i j : ℕ) (at : AreBefore late i j) (count : ℕ) (gaps : AreGaps count late) where
  no-less : (k : ℕ) (d : Late) → k < j → (get_or late k d).gap ≤ i - j
  no-less k d m = omega (
    arith,
    at.before (j - 1) d (omega arith),
    gaps.rising k (j - 1) d (omega arith) (omega (arith, at.in_range)),
  )

  no-more : (k : ℕ) (d : Late) → j ≤ k → k < length late → i - j ≤ (get_or late k d).gap
  no-more k d m n = omega (arith, at.after j d (omega arith) (omega arith), gaps.rising j k d m n)

  gap-bounded : i ≤ count + length late → i - j ≤ count
  gap-bounded within = elim (cases_order j (length late)) [
    | inl same ↦ omega arith
    | inr unlike ↦ elim unlike [
      | inl less ↦ let d : Late =
          record { gap = 0; place = 0 } in omega (arith, no-more j d (omega arith) less, gaps.within j d less)
      | inr more ↦ absurd (omega (arith, at.in_range))
    ]
  ]

  pub gaps-insert : (place : ℕ) → i ≤ count + length late
      → AreGaps count (insert late j (record { gap = i - j; place = place }))
  gaps-insert place within =
      let l : Late = record { gap = i - j; place = place } in
      let P = λ (l : Late). l.gap ≤ count in
      record {
        within = All-append P (take j late) (l ∷ drop j late) (All-take P j late gaps.within)
            (All-cons P l (drop j late) (gap-bounded within) (All-drop P j late gaps.within));
        rising = IsNonDecreasingBy-insert (λ (l : Late). l.gap) late j l gaps.rising at.in_range no-less no-more;
      }

  -- where the late place behind the index isn't at it, it is a settled one
  pub settled-read : (settled : List ℕ) → length settled ≡ count
      → ((d : Late) → j < length late → (get_or late j d).gap ≢ i - j)
      → slice_get (woven settled late) i ≡ slice_get settled (i - j)
  settled-read settled same other =
      get-settled settled late i j (rw same gaps.within) gaps.rising at.in_range at.before
      (λ k d m n. let ne = other d (omega arith) in omega (
        arith,
        at.after j d (omega arith) (omega arith),
        gaps.rising j k d m n,
        at.bounded,
      ))

-- a late place stands behind the settled ones of its gap and the late ones before it
pub late-at : (settled : List ℕ) (late : List Late) (j : ℕ) (l : Late) → AreGaps (length settled) late → j < length late
    → l ≡ get_or late j l → slice_get (woven settled late) (l.gap + j) ≡ Some l.place
late-at settled late j l gaps m here =
    let gap = ap (λ (x : Late). x.gap) here in
    get-late settled late (l.gap + j) j l gaps.within m
    (λ k d n. omega (
      arith,
      gap,
      gaps.rising k j l (omega arith) m,
      ap (λ (x : Late). x.gap) (get_or_default late k d l (omega arith)),
    ))
    (omega arith)
    ∙ ap (λ (x : Late). Some x.place) (sym here)

-- a settled place that no late one is beside stands behind the late ones before it
pub settled-at : (settled : List ℕ) (late : List Late) (j low high i place : ℕ) → AreGaps (length settled) late
    → AreAside late j j low high → low ≤ i + j → i + j < high → i < length settled → place ≡ get_or settled i place
    → slice_get (woven settled late) (i + j) ≡ Some place
settled-at settled late j low high i place gaps aside after before l here =
    let same : i + j - j ≡ i = omega arith in
    get-settled settled late (i + j) j gaps.within gaps.rising aside.in_range
    (λ k d n. omega (arith, aside.before k d n)) (λ k d n m. omega (arith, aside.after k d n m))
    ∙ ap (slice_get settled) same ∙ slice_get-get_or settled i place l ∙ ap Some (sym here)

-- one more late place stands at the index that it was put at
pub woven-put : (settled : List ℕ) (late : List Late) (i j place : ℕ) → AreBefore late i j
    → AreGaps (length settled) late → i ≤ length settled + length late
    → woven settled (insert late j (record { gap = i - j; place = place })) ≡ insert (woven settled late) i place
woven-put settled late i j place at gaps within =
    let l : Late = record { gap = i - j; place = place } in
    let back : i - j + j ≡ i = omega (arith, at.bounded) in
    woven-insert settled late j l gaps.within (gap-bounded late i j at (length settled) gaps within) at.in_range
    (λ k d m. omega (arith, at.before k d m))
    ∙ ap (λ n. insert (woven settled late) n place) back

-- the last late place comes among the settled ones first
woven-push : (settled : List ℕ) (late : List Late) (l : Late)
    → woven settled (late ++ l ∷ []) ≡ woven (insert settled l.gap l.place) late
woven-push settled [] l = refl
woven-push settled (x ∷ late) l = ap (λ xs. insert xs x.gap x.place) (woven-push settled late l)

-- settled places behind all gaps stay behind
woven-append : (settled more : List ℕ) (late : List Late) → AllWithin (length settled) late
    → woven (settled ++ more) late ≡ woven settled late ++ more
woven-append settled more [] h = refl
woven-append settled more (l ∷ late) h =
    ap (λ xs. insert xs l.gap l.place) (woven-append settled more late (within-tail (length settled) l late h))
    ∙ insert-append_left (woven settled late) more l.gap l.place (gap-within settled l late h)

-- The settled places from a gap on were moved up behind room for the late ones, and the last late place was put before
-- them: woven in so far, that is the same list.
module _ (list : List ℕ) (late : List Late) (l : Late) (end : ℕ) (low : l.gap ≤ end)
    (room : end + length late < length list) (h : AllWithin l.gap late) where
  abbrev pub behind : List ℕ
  behind = take (end - l.gap) (drop l.gap list) ++ drop (end + length late + 1) list

  abbrev pub moved : List ℕ
  moved = take (l.gap + length late + 1) list ++ behind

  abbrev pub put : List ℕ
  put = set moved (l.gap + length late) l.place

  length-first : length (take (l.gap + length late + 1) list) ≡ l.gap + length late + 1
  length-first = length-take-le (l.gap + length late + 1) list (omega arith)

  take-put : take l.gap put ≡ take l.gap list
  take-put =
      take-set-le l.gap moved (l.gap + length late) l.place (omega arith)
      ∙ take-append-le l.gap (take (l.gap + length late + 1) list) behind (omega (arith, length-first))
      ∙ take-take l.gap (l.gap + length late + 1) list (omega arith)

  drop-put : drop (l.gap + length late) put ≡ l.place ∷ behind
  drop-put =
      drop-set moved (l.gap + length late) l.place
      (omega (arith, length-first, length-append (take (l.gap + length late + 1) list) behind))
      ∙ ap (λ xs. l.place ∷ xs) (drop_at (take (l.gap + length late + 1) list) behind (l.gap + length late + 1)
      length-first)

  split : insert (take end list) l.gap l.place ≡ take l.gap list ++ (l.place ∷ take (end - l.gap) (drop l.gap list))
  split =
      let whole : l.gap + (end - l.gap) ≡ end = omega arith in
      ap₂ (λ xs ys. xs ++ l.place ∷ ys) (take-take l.gap end list low)
      (ap (λ n. drop l.gap (take n list)) (sym whole) ∙ drop-take l.gap (end - l.gap) list)

  pub woven-step : woven (take l.gap put) late ++ drop (l.gap + length late) put
      ≡ woven (take end list) (late ++ l ∷ []) ++ drop (end + length late + 1) list
  woven-step =
      let first = take l.gap list in
      let next = l.place ∷ take (end - l.gap) (drop l.gap list) in
      let last = drop (end + length late + 1) list in
      let small : l.gap ≤ length list = omega arith in
      let count = length-take-le l.gap list small in
      ap₂ (λ xs ys. woven xs late ++ ys) take-put drop-put
      ∙ sym (append_assoc (woven first late) next last)
      ∙ sym (ap (λ xs. xs ++ last) (woven-push (take end list) late l ∙ ap (λ xs. woven xs late) split
      ∙ woven-append first next late (rw count h)))

-- the last late place is the one with the highest gap
pub gaps-last : (count : ℕ) (late : List Late) (l : Late) → AreGaps count (late ++ l ∷ []) → AreGaps l.gap late
gaps-last count late l gaps = record {
  within = λ k d m.
      let first = get_or_append_left late (l ∷ []) d k m in
      let last = get_or_at late l [] d (length late) refl in
      omega (
        arith,
        gaps.rising k (length late) d (omega arith) (omega (arith, length-append late (l ∷ []))),
        ap (λ (x : Late). x.gap) first,
        ap (λ (x : Late). x.gap) last,
      );
  rising = λ a b d m n.
      let low = get_or_append_left late (l ∷ []) d a (omega arith) in
      let high = get_or_append_left late (l ∷ []) d b n in
      omega (
        arith,
        gaps.rising a b d m (omega (arith, length-append late (l ∷ []))),
        ap (λ (x : Late). x.gap) low,
        ap (λ (x : Late). x.gap) high,
      );
}

-- and it is no higher than their bound
pub gap-last : (count : ℕ) (late : List Late) (l : Late) → AreGaps count (late ++ l ∷ []) → l.gap ≤ count
gap-last count late l gaps =
    let last = get_or_at late l [] l (length late) refl in
    omega (
      arith,
      gaps.within (length late) l (omega (arith, length-append late (l ∷ []))),
      ap (λ (x : Late). x.gap) last,
    )

-- a step of settling, as the code reads its numbers
pub settled-more : (list next : List ℕ) (all late : List Late) (l : Late) (end n m : ℕ) → all ≡ late ++ l ∷ []
    → n ≡ length late → m ≡ length late → AreGaps end all → end + length all ≤ length list
    → next ≡ take (l.gap + n + 1) list ++ (take (end - l.gap) (drop l.gap list) ++ drop (end + n + 1) list)
    → woven (take l.gap (set next (l.gap + m) l.place)) late
    ++ drop (l.gap + length late) (set next (l.gap + m) l.place) ≡ woven (take end list) all
    ++ drop (end + length all) list
settled-more list next all late l end n m parts count again gaps room moved =
    let gaps' : AreGaps end (late ++ l ∷ []) = rw parts at gaps in
    let len : length all ≡ length late + 1 = ap length parts ∙ length_push late l in
    let within : end + length late < length list = omega arith in
    let low = gap-last end late l gaps' in
    let far : end + length all ≡ end + length late + 1 = omega arith in
    rw (moved, count, again, far, parts) (woven-step list late l end low within (gaps-last end late l gaps').within)
