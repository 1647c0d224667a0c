-- Members as pairs: what holds of the one holds of the other.
use Rattle.std.proofs.Common.{◌≡◌, ◌≤◌, ℕ, List, [], ◌∷◌, refl, sym, ap, subst, map, All, IsUtf8, bytes_eq, take, length, take_all}
use Rattle.std.proofs.lemmas.List.Elements.{recursion_from_All, All-from_recursion, All-map, All-same}
use Rattle.std.specs.List.{AllByRecursion, IsDistinct}
use Rattle.json_text.specs.declared.text.Member.{Member}
use Rattle.json_text.specs.Compact.{Member as Pair}
use Rattle.json_text.specs.Members.{pairs, pair_of}
use Rattle.json_text.specs.Value.{IsCompact}
use Rattle.json_text.proofs.CallerLemmas.{names_of, AreMembers}

pub names-pairs : (ms : List Member) → names_of (pairs ms) ≡ map (λ m. m.name) ms
names-pairs [] = refl
names-pairs (m ∷ ms) = ap (λ rest. m.name ∷ rest) (names-pairs ms)

pub pairs-each : (P : Pair → Type 0) (ms : List Member) → AllByRecursion (λ (m : Member). P (m.name, m.value)) ms
    → AllByRecursion P (pairs ms)
pairs-each P [] h = tt
pairs-each P (m ∷ ms) h = (h.0, pairs-each P ms h.1)

pub pairs-AreMembers : (limit i : ℕ) (ms : List Member) → length (pairs ms) ≤ i
    → All (λ (m : Pair). IsUtf8 m.0) (take i (pairs ms)) →
    IsDistinct bytes_eq (map (λ m. m.name) ms) → All (λ m. IsCompact limit m.value) ms → AreMembers limit (pairs ms)
pairs-AreMembers limit i ms all named distinct valued = record {
  named = recursion_from_All (λ (m : Pair). IsUtf8 m.0) (pairs ms)
      (All-same (λ (m : Pair). IsUtf8 m.0) (pairs ms) _ (sym (take_all i (pairs ms) all)) named);
  valued = recursion_from_All (λ (m : Pair). IsCompact limit m.1) (pairs ms)
      (All-map (λ (m : Pair). IsCompact limit m.1) pair_of ms valued);
  distinct = subst (IsDistinct bytes_eq) (sym (names-pairs ms)) distinct;
}

-- what may be made an object of
pub AreMembers-distinct : (limit : ℕ) (ms : List Member) → AreMembers limit (pairs ms)
    → IsDistinct bytes_eq (map (λ m. m.name) ms)
AreMembers-distinct limit ms are = subst (IsDistinct bytes_eq) (names-pairs ms) are.distinct

pub AreMembers-values : (limit : ℕ) (ms : List Member) → AreMembers limit (pairs ms)
    → All (λ (m : Member). IsCompact limit m.value) ms
AreMembers-values limit ms are = All-from_recursion (λ (m : Member). IsCompact limit m.value) ms (each ms are.valued)
  where
    each : (ns : List Member) → AllByRecursion (λ (m : Pair). IsCompact limit m.1) (pairs ns)
        → AllByRecursion (λ (m : Member). IsCompact limit m.value) ns
    each [] all = tt
    each (n ∷ ns) all = (all.0, each ns all.1)
