-- The members that are no header members.
use Rattle.std.proofs.Common.{◌≡◌, ℕ, zero, suc, ◌<◌, ◌≤◌, List, [], ◌∷◌, ◌++◌, length, take, drop, take_all, append-nil, arith, Bool, true, false, not, cond, Some, refl, sym, ap, subst, ◌∙◌, map, filter, bytes_eq}
use Rattle.std.specs.Cmp.Lexicographic.{slice_cmp}
use Rattle.std.specs.List.{AllByRecursion, IsDistinct, list_any}
use Rattle.std.specs.List.Sorted.{IsPermutation, IsSortedBy}
use Rattle.std.proofs.lemmas.List.{drop_all}
use Rattle.std.proofs.lemmas.List.Elements.{All-from_recursion, recursion_from_All}
use Rattle.std.proofs.lemmas.List.Sorted.{All-permutation, IsPermutation-map}
use Rattle.std.specs.Ordering.{is_lt, nat_cmp}
use Rattle.std.proofs.lemmas.Bool.{or_from, both_ways}
use Rattle.std.proofs.lemmas.Map.Entries.{lookup_tail}
use Rattle.json_text.specs.Compact.{Member as Pair}
use Rattle.json_text.specs.Members.{pairs, pair_of}
use Rattle.json_text.specs.Parts.{names_of}
use Rattle.json_text.specs.declared.text.Member.{Member}
use Rattle.members.specs.Standing.{nth}
use Rattle.scene_json.specs.Named.{value_at, HaveRisingNames}
use Rattle.json_text.proofs.CallerLemmas.{bytes_eq-apart}
use Rattle.scene_json.proofs.CallerLemmas.{distinct_moved, same_moved, rising_from_sort, names-pairs}
use Rattle.frac_keys.specs.Keys.{bytes_less}
use Rattle.frac_keys.specs.Rising.{are_rising}
use Rattle.elem.specs.Facts.{names}
use Rattle.elem.specs.Forms.{find_in, AreOthers}
use Rattle.elem.proofs.CallerLemmas.{IsRising, are_rising-from, names-rising, each-list_any, list_any-each}

abbrev pub kept : (List ℕ → Bool) → List Member → List Member
kept test ms = filter (λ (m : Member). not (test m.name)) ms

-- ---- order

kept-all : (P : Pair → Type 0) (test : List ℕ → Bool) (ms : List Member) → AllByRecursion P (pairs ms)
    → AllByRecursion P (pairs (kept test ms))
kept-all P test [] h = tt
kept-all P test (m ∷ ms) h =
    elim (test m.name) as (λ b. AllByRecursion P (pairs (cond (not b) (m ∷ kept test ms) (kept test ms)))) [
      | true ↦ kept-all P test ms h.1
      | false ↦ (h.0, kept-all P test ms h.1)
    ]

kept-rising : (test : List ℕ → Bool) (ms : List Member) → IsRising (pairs ms) → IsRising (pairs (kept test ms))
kept-rising test [] rise = tt
kept-rising test (m ∷ ms) rise =
    elim (test m.name) as (λ b. IsRising (pairs (cond (not b) (m ∷ kept test ms) (kept test ms)))) [
      | true ↦ kept-rising test ms rise.1
      | false ↦ (kept-all (λ n. bytes_less m.name n.0 ≡ true) test ms rise.0, kept-rising test ms rise.1)
    ]

-- ---- what is left
pub kept-free : (test : List ℕ → Bool) (ms : List Member) → list_any test (names (kept test ms)) ≡ false
kept-free test [] = refl
kept-free test (m ∷ ms) =
    elim (test m.name) as (λ b. test m.name ≡ b
    → list_any test (names (cond (not b) (m ∷ kept test ms) (kept test ms)))
    ≡ false) [
      | true ↦ λ e. kept-free test ms
      | false ↦ λ e. or_from _ _ e (kept-free test ms)
    ] refl

head-or : (name : List ℕ) (m : Pair) (ms ns : List Pair) → value_at name ms ≡ value_at name ns
    → value_at name (m ∷ ms) ≡ value_at name (m ∷ ns)
head-or name m ms ns e = ap (λ rest. cond (bytes_eq name m.0) (Some m.1) rest) e

pub kept-same : (test : List ℕ → Bool) (ms : List Member) (name : List ℕ) → test name ≡ false
    → value_at name (pairs (kept test ms)) ≡ value_at name (pairs ms)
kept-same test [] name other = refl
kept-same test (m ∷ ms) name other =
    elim (test m.name) as (λ b. test m.name ≡ b
    → value_at name (pairs (cond (not b) (m ∷ kept test ms) (kept test ms)))
    ≡ value_at name (pairs (m ∷ ms))) [
      | true ↦ λ e.
          let apart : bytes_eq name m.name ≡ false =
          bytes_eq-apart name m.name (λ same. both_ways (test name) other (ap test same ∙ e)) in
          kept-same test ms name other ∙ sym (lookup_tail (bytes_eq name) (m.name, m.value) (pairs ms) apart)
      | false ↦ λ e. head-or name (m.name, m.value) (pairs (kept test ms)) (pairs ms) (kept-same test ms name other)
    ] refl

-- ---- what a loop has passed and what is left of the others
-- the members that were passed, and of the others those that are left
abbrev pub passed : (List ℕ → Bool) → ℕ → List Member → List Member
passed test at ms = take at ms ++ kept test (drop at ms)

pub passed-removed : (test : List ℕ → Bool) (at next : ℕ) (ms : List Member) → next ≡ suc at → at < length ms
    → test (nth ms at).name ≡ true → passed test at (take at ms ++ drop next ms) ≡ passed test at ms
passed-removed test at next [] is inside has = elim inside [ ]
passed-removed test zero next (m ∷ ms) is inside has =
    rw (is, has) refl
passed-removed test (suc at) next (m ∷ ms) is inside has =
    rw is (ap (λ rest. m ∷ rest) (passed-removed test at (suc at) ms refl (omega arith) has))

pub passed-kept : (test : List ℕ → Bool) (at next : ℕ) (ms : List Member) → next ≡ suc at → at < length ms
    → test (nth ms at).name ≡ false → passed test next ms ≡ passed test at ms
passed-kept test at next [] is inside lacks = elim inside [ ]
passed-kept test zero next (m ∷ ms) is inside lacks =
    rw (is, lacks) refl
passed-kept test (suc at) next (m ∷ ms) is inside lacks =
    rw is (ap (λ rest. m ∷ rest) (passed-kept test at (suc at) ms refl (omega arith) lacks))

pub passed-all : (test : List ℕ → Bool) (at : ℕ) (ms : List Member) → length ms ≤ at → passed test at ms ≡ ms
passed-all test at ms all = rw (take_all at ms all, drop_all at ms all, append-nil) refl

pub kept-others : (test : List ℕ → Bool) (ms : List Member) → HaveRisingNames (pairs ms)
    → AreOthers test (find_in (pairs ms)) (kept test ms)
kept-others test ms rise = record {
  rise = ap are_rising (sym (names-pairs (kept test ms)))
      ∙ are_rising-from (pairs (kept test ms)) (kept-rising test ms (names-rising (pairs ms) rise));
  free = kept-free test ms;
  same = kept-same test ms;
}

-- ---- sorted
names-all : (P : List ℕ → Type 0) (ms : List Pair) → AllByRecursion P (names_of ms)
    → AllByRecursion (λ (m : Pair). P m.0) ms
names-all P [] h = tt
names-all P (m ∷ ms) h = (h.0, names-all P ms h.1)

all-names : (P : List ℕ → Type 0) (ms : List Pair) → AllByRecursion (λ (m : Pair). P m.0) ms
    → AllByRecursion P (names_of ms)
all-names P [] h = tt
all-names P (m ∷ ms) h = (h.0, all-names P ms h.1)

kept-distinct : (test : List ℕ → Bool) (ms : List Member) → IsDistinct bytes_eq (names_of (pairs ms))
    → IsDistinct bytes_eq (names_of (pairs (kept test ms)))
unfolding IsDistinct
kept-distinct test [] apart = tt
kept-distinct test (m ∷ ms) apart =
    let P : List ℕ → Type 0 = λ y. bytes_eq m.name y ≡ false in
    elim (test m.name) as (λ b. IsDistinct bytes_eq
    (names_of (pairs (cond (not b) (m ∷ kept test ms) (kept test ms))))) [
      | true ↦ kept-distinct test ms apart.1
      | false ↦ (
        all-names P (pairs (kept test ms)) (kept-all (λ n. P n.0) test ms (names-all P (pairs ms) apart.0)),
        kept-distinct test ms apart.1,
      )
    ]

pub sorted-others : (test : List ℕ → Bool) (ms ws : List Member)
    → IsDistinct bytes_eq (map (λ (m : Member). m.name) ms)
    → IsPermutation (kept test ms) ws
    → IsSortedBy (λ (a : Member) (b : Member). is_lt (slice_cmp nat_cmp a.name b.name)) ws
    → AreOthers test (find_in (pairs ms)) ws
sorted-others test ms ws apart moved up =
    let P : Member → Type 0 = λ m. test m.name ≡ false in
    let paired = IsPermutation-map pair_of (kept test ms) ws moved in
    let distinct = kept-distinct test ms (subst (IsDistinct bytes_eq) (sym (names-pairs ms)) apart) in
    let still = subst (IsDistinct bytes_eq) (names-pairs ws)
    (distinct_moved (pairs (kept test ms)) (pairs ws) paired distinct) in
    let rise = rising_from_sort ws up still in record {
      rise = ap are_rising (sym (names-pairs ws)) ∙ are_rising-from (pairs ws) (names-rising (pairs ws) rise);
      free =
          list_any-each test ws (recursion_from_All P ws
          (All-permutation P (kept test ms) ws moved
          (All-from_recursion P (kept test ms) (each-list_any test (kept test ms) (kept-free test ms)))));
      same = λ name other. sym (same_moved (pairs (kept test ms)) (pairs ws) distinct paired name)
          ∙ kept-same test ms name other;
    }
