-- Members and the table, whose names rise, merged: what is found at each name.
use Rattle.std.proofs.Common.{◌≡◌, ◌≢◌, ℕ, List, [], ◌∷◌, ◌++◌, ◌+◌, ◌≤◌, zero, suc, length, take, drop, set, get_or, slice_get, insert, arith, Ordering, Bool, true, false, Option, Some, None, bytes_eq, nat_cmp, refl, sym, subst, ap, ◌∙◌, if◌then◌else◌}
use Rattle.std.specs.Cmp.Lexicographic.{slice_cmp, nat_list_cmp_total}
use Rattle.std.specs.List.{AllByRecursion}
use Rattle.std.specs.Option.{option_map_or}
use Rattle.std.specs.Ordering.{match_ordering, ordering_reverse}
use Rattle.std.specs.declared.cmp.Ordering.TheVariants.{Less, Equal, Greater}
use Rattle.std.proofs.lemmas.Cmp.{tied_itself}
use Rattle.std.proofs.lemmas.Map.Entries.{lookup_head, lookup_tail}
use Rattle.json_text.specs.Compact.{Member as Pair}
use Rattle.json_text.specs.Members.{pairs, pair_of}
use Rattle.json_text.specs.Tree.{null_word}
use Rattle.json_text.specs.declared.text.Member.{Member}
use Rattle.scene_json.specs.Named.{value_at, HaveRisingNames}
use Rattle.json_text.proofs.CallerLemmas.{bytes_eq-true}
use Rattle.scene_json.proofs.CallerLemmas.{IsBelow, IsBelow-less, bytes_eq-tied, less_turned, value_at-below, rising_parts, rising_from, rising_none}
use Rattle.restore_table.specs.Merged.{chosen, spliced, merged}
use Rattle.restore_table.specs.inner.Merged.{RiseAfter, IsWholeAfter}
use Rattle.restore_table.specs.Restored.{filled}

-- ---- the names rise
spliced-below : (name : List ℕ) (m : Pair) (rows : List Pair) (f : List Pair → List Pair)
    → slice_cmp nat_cmp name m.0 ≡ Less → IsBelow name rows →
    ((rs : List Pair) → IsBelow name rs → IsBelow name (f rs)) → IsBelow name (spliced m rows f)
spliced-below name m [] f less below keeps = (less, keeps [] tt)
spliced-below name m (row ∷ rows) f less below keeps =
    elim (slice_cmp nat_cmp row.0 m.0) as
    (λ o. IsBelow name (match_ordering o (row ∷ spliced m rows f) (chosen row m ∷ f rows) (m ∷ f (row ∷ rows)))) [
      | Less ↦ (below.0, spliced-below name m rows f less below.1 keeps)
      | Equal ↦ (less, keeps rows below.1)
      | Greater ↦ (less, keeps (row ∷ rows) below)
    ]

merged-below : (name : List ℕ) (ms rows : List Pair) → IsBelow name ms → IsBelow name rows
    → IsBelow name (merged ms rows)
merged-below name [] rows left right = right
merged-below name (m ∷ ms) rows left right =
    spliced-below name m rows (merged ms) left.0 right (λ rs below. merged-below name ms rs left.1 below)

spliced-rise : (m : Pair) (ms rows : List Pair) → IsBelow m.0 ms
    → ((rs : List Pair) → HaveRisingNames rs → HaveRisingNames (merged ms rs)) → HaveRisingNames rows →
    HaveRisingNames (spliced m rows (merged ms))
spliced-rise m ms [] below others rise =
    rising_from m (merged ms []) (merged-below m.0 ms [] below tt) (others [] rising_none)
spliced-rise m ms (row ∷ rows) below others rise =
    let parts = rising_parts row rows rise in
    elim (slice_cmp nat_cmp row.0 m.0) as (λ o. slice_cmp nat_cmp row.0 m.0 ≡ o →
    HaveRisingNames (match_ordering o (row ∷ spliced m rows (merged ms)) (chosen row m ∷ merged ms rows)
    (m ∷ merged ms (row ∷ rows)))) [
      | Less ↦ λ less.
          rising_from row (spliced m rows (merged ms))
          (spliced-below row.0 m rows (merged ms) less parts.0
          (λ rs under. merged-below row.0 ms rs (IsBelow-less row.0 m.0 ms less below) under))
          (spliced-rise m ms rows below others parts.1)
      | Equal ↦ λ tied.
          let same = bytes_eq-true row.0 m.0 (bytes_eq-tied row.0 m.0 tied) in
          rising_from (chosen row m) (merged ms rows)
          (merged-below m.0 ms rows below (subst (λ n. IsBelow n rows) same parts.0)) (others rows parts.1)
      | Greater ↦ λ more.
          let less = less_turned row.0 m.0 more in
          rising_from m (merged ms (row ∷ rows)) (merged-below m.0 ms (row ∷ rows) below (
            less,
            IsBelow-less m.0 row.0 rows less parts.0,
          )) (others (row ∷ rows) rise)
    ] refl

pub merged-rise : (ms rows : List Pair) → HaveRisingNames ms → HaveRisingNames rows → HaveRisingNames (merged ms rows)
merged-rise [] rows left right = right
merged-rise (m ∷ ms) rows left right =
    let parts = rising_parts m ms left in
    spliced-rise m ms rows parts.0 (λ rs rise. merged-rise ms rs parts.1 rise) right

-- ---- what is found at a name
none_at : (name : List ℕ) (m : Pair) (ms : List Pair) → bytes_eq name m.0 ≡ true → IsBelow m.0 ms
    → value_at name ms ≡ None
none_at name m ms e below = ap (λ x. value_at x ms) (bytes_eq-true name m.0 e) ∙ value_at-below m.0 ms below

before_at : (name : List ℕ) (row : Pair) (rows ms all : List Pair) (b : Bool) → bytes_eq name row.0 ≡ b
    → IsBelow row.0 ms →
    value_at name all ≡ filled (value_at name rows) (value_at name ms)
    → value_at name (row ∷ all) ≡ filled (value_at name (row ∷ rows)) (value_at name ms)
before_at name row rows ms all true e below others =
    let here = lookup_head (bytes_eq name) row rows e in
    let none = none_at name row ms e below in
    lookup_head (bytes_eq name) row all e ∙ sym (λ i. filled (here i) (none i))
before_at name row rows ms all false e below others =
    lookup_tail (bytes_eq name) row all e
    ∙ (others ∙ sym (ap (λ d. filled d (value_at name ms)) (lookup_tail (bytes_eq name) row rows e)))

choice : (b : Bool) (default value : List ℕ) → Some (if b then default else value)
    ≡ (if b then Some default else Some value)
choice true default value = refl
choice false default value = refl

tied_at : (name : List ℕ) (row m : Pair) (rows ms all : List Pair) (b : Bool) → bytes_eq name m.0 ≡ b → row.0 ≡ m.0 →
    value_at name all ≡ filled (value_at name rows) (value_at name ms)
    → value_at name (chosen row m ∷ all) ≡ filled (value_at name (row ∷ rows)) (value_at name (m ∷ ms))
tied_at name row m rows ms all true e same others =
    let here = lookup_head (bytes_eq name) row rows (ap (bytes_eq name) same ∙ e) in
    let given = lookup_head (bytes_eq name) m ms e in
    lookup_head (bytes_eq name) (chosen row m) all e
    ∙ (choice (bytes_eq m.1 null_word) row.1 m.1 ∙ sym (λ i. filled (here i) (given i)))
tied_at name row m rows ms all false e same others =
    let here = lookup_tail (bytes_eq name) row rows (ap (bytes_eq name) same ∙ e) in
    let given = lookup_tail (bytes_eq name) m ms e in
    lookup_tail (bytes_eq name) (chosen row m) all e ∙ (others ∙ sym (λ i. filled (here i) (given i)))

behind_at : (name : List ℕ) (m : Pair) (rows ms all : List Pair) (b : Bool) → bytes_eq name m.0 ≡ b → IsBelow m.0 rows →
    value_at name all ≡ filled (value_at name rows) (value_at name ms)
    → value_at name (m ∷ all) ≡ filled (value_at name rows) (value_at name (m ∷ ms))
behind_at name m rows ms all true e below others =
    let none = none_at name m rows e below in
    let given = lookup_head (bytes_eq name) m ms e in
    lookup_head (bytes_eq name) m all e ∙ sym (λ i. filled (none i) (given i))
behind_at name m rows ms all false e below others =
    lookup_tail (bytes_eq name) m all e
    ∙ (others ∙ sym (ap (filled (value_at name rows)) (lookup_tail (bytes_eq name) m ms e)))

spliced-at : (name : List ℕ) (m : Pair) (ms rows : List Pair) → IsBelow m.0 ms → HaveRisingNames rows →
    ((rs : List Pair) → HaveRisingNames rs → value_at name (merged ms rs)
    ≡ filled (value_at name rs) (value_at name ms)) →
    value_at name (spliced m rows (merged ms)) ≡ filled (value_at name rows) (value_at name (m ∷ ms))
spliced-at name m ms [] below rise others =
    behind_at name m [] ms (merged ms []) (bytes_eq name m.0) refl tt (others [] rising_none)
spliced-at name m ms (row ∷ rows) below rise others =
    let parts = rising_parts row rows rise in
    elim (slice_cmp nat_cmp row.0 m.0) as (λ o. slice_cmp nat_cmp row.0 m.0 ≡ o →
    value_at name (match_ordering o (row ∷ spliced m rows (merged ms)) (chosen row m ∷ merged ms rows)
    (m ∷ merged ms (row ∷ rows)))
    ≡ filled (value_at name (row ∷ rows)) (value_at name (m ∷ ms))) [
      | Less ↦ λ less.
          before_at name row rows (m ∷ ms) (spliced m rows (merged ms)) (bytes_eq name row.0) refl (
            less,
            IsBelow-less row.0 m.0 ms less below,
          )
          (spliced-at name m ms rows below parts.1 others)
      | Equal ↦ λ tied.
          tied_at name row m rows ms (merged ms rows) (bytes_eq name m.0) refl
          (bytes_eq-true row.0 m.0 (bytes_eq-tied row.0 m.0 tied)) (others rows parts.1)
      | Greater ↦ λ more.
          let less = less_turned row.0 m.0 more in
          behind_at name m (row ∷ rows) ms (merged ms (row ∷ rows)) (bytes_eq name m.0) refl (
            less,
            IsBelow-less m.0 row.0 rows less parts.0,
          ) (others (row ∷ rows) rise)
    ] refl

pub merged-at : (name : List ℕ) (ms rows : List Pair) → HaveRisingNames ms → HaveRisingNames rows →
    value_at name (merged ms rows) ≡ filled (value_at name rows) (value_at name ms)
merged-at name [] rows left right = unfilled (value_at name rows)
  where
    unfilled : (d : Option (List ℕ)) → d ≡ filled d None
    unfilled None = refl
    unfilled (Some d) = refl
merged-at name (m ∷ ms) rows left right =
    let parts = rising_parts m ms left in
    spliced-at name m ms rows parts.0 right (λ rs rise. merged-at name ms rs parts.1 rise)

-- ---- what holds of each value
spliced-values : (P : List ℕ → Type 0) (m : Pair) (rows : List Pair) (f : List Pair → List Pair) → P m.1
    → AllByRecursion (λ (r : Pair). P r.1) rows →
    ((rs : List Pair) → AllByRecursion (λ (r : Pair). P r.1) rs → AllByRecursion (λ (r : Pair). P r.1) (f rs))
    → AllByRecursion (λ (r : Pair). P r.1) (spliced m rows f)
spliced-values P m [] f one each keeps = (one, keeps [] tt)
spliced-values P m (row ∷ rows) f one each keeps =
    elim (slice_cmp nat_cmp row.0 m.0) as
    (λ o. AllByRecursion (λ (r : Pair). P r.1) (match_ordering o (row ∷ spliced m rows f) (chosen row m ∷ f rows)
    (m ∷ f (row ∷ rows)))) [
      | Less ↦ (each.0, spliced-values P m rows f one each.1 keeps)
      | Equal ↦ (
        elim (bytes_eq m.1 null_word) as (λ b. P (if b then row.1 else m.1)) [ true ↦ each.0 | false ↦ one ],
        keeps rows each.1,
      )
      | Greater ↦ (one, keeps (row ∷ rows) each)
    ]

pub merged-values : (P : List ℕ → Type 0) (ms rows : List Pair) → AllByRecursion (λ (m : Pair). P m.1) ms
    → AllByRecursion (λ (m : Pair). P m.1) rows →
    AllByRecursion (λ (m : Pair). P m.1) (merged ms rows)
merged-values P [] rows left right = right
merged-values P (m ∷ ms) rows left right =
    spliced-values P m rows (merged ms) left.0 right (λ rs each. merged-values P ms rs left.1 each)

-- ---- one row or member after the other
merged-no_rows : (ms : List Pair) → merged ms [] ≡ ms
merged-no_rows [] = refl
merged-no_rows (m ∷ ms) = ap (λ xs. m ∷ xs) (merged-no_rows ms)

-- what the members before a place, the others and these rows make
abbrev pub made_at : ℕ → List Member → List Pair → List Pair
made_at place ms rows = pairs (take place ms) ++ merged (pairs (drop place ms)) rows

-- how a row compares to the member at a place
abbrev pub order_at : Pair → ℕ → List Member → Ordering
order_at row place ms = option_map_or (λ (m : Member). slice_cmp nat_cmp row.0 m.name) (slice_get ms place) Less

abbrev by_order : Pair → Pair → List Pair → List Pair → Ordering → List Pair
by_order row m ms rows o =
    match_ordering o (row ∷ spliced m rows (merged ms)) (chosen row m ∷ merged ms rows) (m ∷ merged ms (row ∷ rows))

pub within : (row : Pair) (place : ℕ) (ms : List Member) → order_at row place ms ≢ Less → place + 1 ≤ length ms
within row zero [] other = absurd (other refl)
within row (suc place) [] other = absurd (other refl)
within row zero (m ∷ ms) other = omega arith
within row (suc place) (m ∷ ms) other = omega (arith, within row place ms other)

pub made-before : (place : ℕ) (ms : List Member) (new : Member) (row : Pair) (rows : List Pair) → place ≤ length ms
    → pair_of new ≡ row → order_at row place ms ≡ Less →
    made_at (place + 1) (insert ms place new) rows ≡ made_at place ms (row ∷ rows)
made-before zero [] new row rows h is less = ap (λ r. r ∷ rows) is
made-before (suc place) [] new row rows h is less = absurd (omega arith)
made-before zero (m ∷ ms) new row rows h is less =
    ap (λ r. r ∷ merged (pairs (m ∷ ms)) rows) is ∙ sym (ap (by_order row (pair_of m) (pairs ms) rows) less)
made-before (suc place) (m ∷ ms) new row rows h is less = let e : suc place + 1 ≡ suc (place + 1) = omega arith in
    rw e (ap (λ xs. pair_of m ∷ xs) (made-before place ms new row rows (omega arith) is less))

pub made-there : (place : ℕ) (ms : List Member) (old new : Member) (row : Pair) (rows : List Pair)
    → old ≡ get_or ms place old → pair_of new ≡ chosen row (pair_of old) →
    order_at row place ms ≡ Equal → made_at (place + 1) (set ms place new) rows ≡ made_at place ms (row ∷ rows)
made-there zero [] old new row rows there is tied = cc
made-there (suc place) [] old new row rows there is tied = cc
made-there zero (m ∷ ms) old new row rows there is tied =
    ap (λ r. r ∷ merged (pairs ms) rows) (is ∙ ap (λ n. chosen row (pair_of n)) there)
    ∙ sym (ap (by_order row (pair_of m) (pairs ms) rows) tied)
made-there (suc place) (m ∷ ms) old new row rows there is tied =
    let e : suc place + 1 ≡ suc (place + 1) =
    omega arith in rw e (ap (λ xs. pair_of m ∷ xs) (made-there place ms old new row rows there is tied))

pub made-behind : (place : ℕ) (ms : List Member) (row : Pair) (rows : List Pair) → order_at row place ms ≡ Greater →
    made_at (place + 1) ms (row ∷ rows) ≡ made_at place ms (row ∷ rows)
made-behind zero [] row rows behind = cc
made-behind (suc place) [] row rows behind = cc
made-behind zero (m ∷ ms) row rows behind = sym (ap (by_order row (pair_of m) (pairs ms) rows) behind)
made-behind (suc place) (m ∷ ms) row rows behind = let e : suc place + 1 ≡ suc (place + 1) = omega arith in
    rw e (ap (λ xs. pair_of m ∷ xs) (made-behind place ms row rows behind))

pub made-all : (place : ℕ) (ms : List Member) → made_at place ms [] ≡ pairs ms
made-all zero ms = merged-no_rows (pairs ms)
made-all (suc place) [] = refl
made-all (suc place) (m ∷ ms) = ap (λ xs. pair_of m ∷ xs) (made-all place ms)

-- ---- members that are whole
pub first_name : (last : List ℕ) (row : Pair) (rows : List Pair) → RiseAfter last (row ∷ rows) → RiseAfter row.0 rows
first_name last row rows rise = (rising_parts (last, []) (row ∷ rows) rise).1

-- a name before the first of the rows
abbrev pub IsBeforeFirst : List ℕ → List Pair → Type 0
IsBeforeFirst name [] = Unit {0}
IsBeforeFirst name (row ∷ rows) = slice_cmp nat_cmp name row.0 ≡ Less

pub rise-before : (last name : List ℕ) (rows : List Pair) → RiseAfter last rows → IsBeforeFirst name rows
    → RiseAfter name rows
rise-before last name [] rise before = rising_from (name, []) [] tt rising_none
rise-before last name (row ∷ rows) rise before =
    let parts = rising_parts (last, []) (row ∷ rows) rise in
    rising_from (name, []) (row ∷ rows) (before, IsBelow-less name row.0 rows before (rising_parts row rows parts.1).0)
    parts.1

rise-member : (last : List ℕ) (m : Pair) (others : List Pair) → slice_cmp nat_cmp last m.0 ≡ Less → RiseAfter m.0 others
    → RiseAfter last (m ∷ others)
rise-member last m others less rise =
    let parts = rising_parts (m.0, []) others rise in
    rising_from (last, []) (m ∷ others) (less, IsBelow-less last m.0 others less parts.0)
    (rising_from m others parts.0 parts.1)

pub whole-row : (last : List ℕ) (row m : Pair) (rows others : List Pair) → RiseAfter last (row ∷ rows) → m.0 ≡ row.0
    → chosen row m ≡ m → IsWholeAfter m.0 rows others →
    IsWholeAfter last (row ∷ rows) (m ∷ others)
whole-row last row m rows others rise named stays w =
    let less : slice_cmp nat_cmp last m.0 ≡ Less = rw named (rising_parts (last, []) (row ∷ rows) rise).0.0 in
    let same : slice_cmp nat_cmp row.0 m.0 ≡ Equal = rw named (tied_itself nat_list_cmp_total row.0) in
    record {
      rise = rise-member last m others less w.rise;
      whole =
          ap (by_order row m others rows) same ∙ (ap (λ n. n ∷ merged others rows) stays ∙ ap (λ xs. m ∷ xs) w.whole);
    }

pub whole-member : (last : List ℕ) (m : Pair) (rows others : List Pair) → slice_cmp nat_cmp last m.0 ≡ Less
    → IsBeforeFirst m.0 rows → IsWholeAfter m.0 rows others →
    IsWholeAfter last rows (m ∷ others)
whole-member last m [] others less before w =
    record { rise = rise-member last m others less w.rise; whole = ap (λ xs. m ∷ xs) w.whole }
whole-member last m (row ∷ rows) others less before w =
    let behind : slice_cmp nat_cmp row.0 m.0 ≡ Greater =
    nat_list_cmp_total.antisymm row.0 m.0 ∙ ap ordering_reverse before in
    record {
      rise = rise-member last m others less w.rise;
      whole = ap (by_order row m others rows) behind
          ∙ ap (λ xs. m ∷ xs) w.whole;
    }
