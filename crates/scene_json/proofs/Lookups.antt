-- Looking members up by their names.
use Rattle.std.proofs.Common.{◌≡◌, ℕ, suc, ◌+◌, ◌<◌, List, [], ◌∷◌, length, drop, get_or, Some, None, bytes_eq, refl, sym, subst, ap, ◌∙◌, true, false, nat_cmp, map, cond, ◌↔◌, arith}
use Rattle.std.proofs.lemmas.Float.{T_from_true}
use Rattle.std.specs.Cmp.Lexicographic.{slice_cmp, nat_list_cmp_total, nat_list_eq_equiv, texts_ties}
use Rattle.std.specs.List.{AllByRecursion, IsDistinct}
use Rattle.std.specs.List.Sorted.{IsPermutation, IsSortedBy, IsStrictlySortedBy}
use Rattle.std.specs.Ordering.{is_eq, is_lt, ordering_reverse}
use Rattle.std.specs.declared.cmp.Ordering.TheVariants.{Less, Equal, Greater}
use Rattle.std.proofs.lemmas.List.Sorted.{Contains-permutation, IsPermutation-sym, IsPermutation-map}
use Rattle.std.specs.FinMap.{slice_cmp-IsAntisymmetric, nat_cmp-IsAntisymmetric}
use Rattle.std.specs.FinMap.Entries.{find, is_sorted, below_all, same_entries}
use Rattle.std.proofs.lemmas.List.{length-map, get_or-map}
use Rattle.std.proofs.lemmas.Map.Keys.{IsDistinct-IsPermutation, IsDistinct-from_sorted, apart_from_distinct, sorted_from_all_adjacent}
use Rattle.scene_json.proofs.Pairs.{names-pairs}
use Rattle.std.proofs.lemmas.Map.Views.{Contains-from_lookup, lookup-from_Contains}
use Rattle.json_text.specs.Compact.{Member as Pair}
use Rattle.json_text.specs.Members.{pairs}
use Rattle.json_text.specs.Parts.{names_of}
use Rattle.json_text.specs.declared.text.Member.{Member}
use Rattle.scene_json.specs.Named.{value_at, AreSameMembers, HaveRisingNames}
use Rattle.json_text.proofs.CallerLemmas.{bytes_eq-true}

-- what a look-up from a place on finds there
pub value_at-found : (name : List ℕ) (ms : List Member) (i : ℕ) (m : Member) → i < length ms → m ≡ get_or ms i m
    → bytes_eq name m.name ≡ true →
    value_at name (pairs (drop i ms)) ≡ Some m.value
value_at-found name (x ∷ xs) (suc i) m h e test = value_at-found name xs i m (omega arith) e test
value_at-found name ms i m h e test = grind arith

-- ---- the order of members of distinct names plays no part
found_moved : (name value : List ℕ) (ms ns : List Pair) → IsDistinct bytes_eq (names_of ns) → IsPermutation ms ns →
    value_at name ms ≡ Some value → value_at name ns ≡ Some value
found_moved name value ms ns apart moved found =
    lookup-from_Contains nat_list_eq_equiv name value ns apart
    (Contains-permutation ms ns (name, value) moved (Contains-from_lookup bytes_eq-true name value ms found))

pub distinct_moved : (ms ns : List Pair) → IsPermutation ms ns → IsDistinct bytes_eq (names_of ms)
    → IsDistinct bytes_eq (names_of ns)
distinct_moved ms ns moved apart =
    IsDistinct-IsPermutation bytes_eq nat_list_eq_equiv.symm (names_of ms) (names_of ns)
    (IsPermutation-map (λ (m : Pair). m.0) ms ns moved) apart

pub same_moved : (ms ns : List Pair) → IsDistinct bytes_eq (names_of ms) → IsPermutation ms ns → AreSameMembers ms ns
same_moved ms ns apart moved name =
    grind (arith, found_moved name, distinct_moved ms ns moved apart, moved, IsPermutation-sym ms ns moved)

-- ---- members whose names rise
-- the name is less than those of all these members
abbrev pub IsBelow : List ℕ → List Pair → Type 0
IsBelow name ms = AllByRecursion (λ other. slice_cmp nat_cmp name other ≡ Less) (names_of ms)

pub bytes_eq-less : (a b : List ℕ) → slice_cmp nat_cmp a b ≡ Less → bytes_eq a b ≡ false
bytes_eq-less a b h = texts_ties a b ∙ ap is_eq h

pub bytes_eq-tied : (a b : List ℕ) → slice_cmp nat_cmp a b ≡ Equal → bytes_eq a b ≡ true
bytes_eq-tied a b h = texts_ties a b ∙ ap is_eq h

pub less_turned : (a b : List ℕ) → slice_cmp nat_cmp a b ≡ Greater → slice_cmp nat_cmp b a ≡ Less
less_turned a b h = nat_list_cmp_total.antisymm b a ∙ ap ordering_reverse h

pub IsBelow-less : (a b : List ℕ) (ms : List Pair) → slice_cmp nat_cmp a b ≡ Less → IsBelow b ms → IsBelow a ms
IsBelow-less a b [] less below = tt
IsBelow-less a b (m ∷ ms) less below = (nat_list_cmp_total.trans a b m.0 less below.0, IsBelow-less a b ms less below.1)

pub value_at-below : (name : List ℕ) (ms : List Pair) → IsBelow name ms → value_at name ms ≡ None
value_at-below name [] below = refl
value_at-below name (m ∷ ms) below = grind (arith, bytes_eq-less name m.0, value_at-below name ms)

pub rising_parts : (m : Pair) (ms : List Pair) → HaveRisingNames (m ∷ ms) → IsBelow m.0 ms × HaveRisingNames ms
unfolding IsStrictlySortedBy
rising_parts m ms rise = rise

pub rising_from : (m : Pair) (ms : List Pair) → IsBelow m.0 ms → HaveRisingNames ms → HaveRisingNames (m ∷ ms)
unfolding IsStrictlySortedBy
rising_from m ms below rise = (below, rise)

pub rising_none : HaveRisingNames []
unfolding IsStrictlySortedBy
rising_none = tt

pub rising_distinct : (ms : List Pair) → HaveRisingNames ms → IsDistinct bytes_eq (names_of ms)
rising_distinct ms rise =
    subst (λ same. IsDistinct same (names_of ms)) (λ i a b. sym (texts_ties a b) i)
    (IsDistinct-from_sorted (slice_cmp nat_cmp) (names_of ms) rise)

-- a sort of members of distinct names makes them rise
pub rising_from_sort : (vs : List Member)
    → IsSortedBy (λ (a : Member) (b : Member). is_lt (slice_cmp nat_cmp a.name b.name)) vs →
    IsDistinct bytes_eq (map (λ (v : Member). v.name) vs) → HaveRisingNames (pairs vs)
rising_from_sort vs up apart =
    let names = map (λ (v : Member). v.name) vs in
    let none : Member = record { name = []; value = [] } in
    subst (IsStrictlySortedBy (slice_cmp nat_cmp)) (sym (names-pairs vs))
    (sorted_from_all_adjacent nat_list_cmp_total names [] (λ k h.
    let within : k + 1 < length vs = simp length-map at h in
    grind (
      arith,
      nat_list_cmp_total.antisymm (get_or names k []) (get_or names (k + 1) []),
      texts_ties (get_or names k []) (get_or names (k + 1) []),
      apart_from_distinct bytes_eq names k (k + 1) [] apart (omega arith) h,
      get_or-map (λ (v : Member). v.name) vs k none [] (omega arith),
      get_or-map (λ (v : Member). v.name) vs (k + 1) none [] within,
      up k none (omega arith) within,
    )))

-- the same as a finite map says it
below_same : (name : List ℕ) (ms : List Pair) → (below_all (slice_cmp nat_cmp) name ms ≡ true) ↔ IsBelow name ms
below_same name [] = (λ h. tt, λ h. refl)
below_same name (m ∷ ms) = grind (arith, below_same name ms)

pub sorted_same : (ms : List Pair) → (is_sorted (slice_cmp nat_cmp) ms ≡ true) ↔ HaveRisingNames ms
unfolding IsStrictlySortedBy
sorted_same [] = (λ h. tt, λ h. refl)
sorted_same (m ∷ ms) = grind (arith, below_same m.0 ms, sorted_same ms)

pub find_same : (name : List ℕ) (ms : List Pair) → find (slice_cmp nat_cmp) name ms ≡ value_at name ms
find_same name [] = refl
find_same name (m ∷ ms) = λ i. cond (sym (texts_ties name m.0) i) (Some m.1) (find_same name ms i)

-- members whose names rise are told by their look-ups
pub rising_same : (ms ns : List Pair) → HaveRisingNames ms → HaveRisingNames ns → AreSameMembers ms ns → ms ≡ ns
rising_same ms ns rise other same =
    let sorted = λ (ms : List Pair) (rise : HaveRisingNames ms). T_from_true (is_sorted (slice_cmp nat_cmp) ms)
    ((sorted_same ms).1 rise) in
    same_entries (slice_cmp nat_cmp) nat_list_cmp_total (slice_cmp-IsAntisymmetric nat_cmp-IsAntisymmetric) ms ns
    (sorted ms rise) (sorted ns other)
    (λ name. find_same name ms ∙ same name ∙ sym (find_same name ns))

pub ruleset lookup_steps = (value_at-found)
