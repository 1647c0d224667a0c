-- How deep restored values nest.
use Rattle.std.proofs.Common.{◌≡◌, ℕ, ◌≤◌, List, [], ◌∷◌, ◌++◌, All, filter, sym, subst, arith, true, false, cond}
use Rattle.std.specs.List.{AllByRecursion}
use Rattle.std.proofs.lemmas.List.Elements.{All-from_recursion, recursion_from_All}
use Rattle.json_text.specs.Compact.{Member as Pair, has_other_name}
use Rattle.json_text.specs.Members.{pairs}
use Rattle.json_text.specs.Value.{IsCompact}
use Rattle.json_text.specs.declared.text.Member.{Member}
use Rattle.json_text.proofs.CallerLemmas.{Value-deeper}
use Rattle.restore_table.specs.Merged.{merged}
use Rattle.restore_table.specs.Table.{defaults}
use Rattle.restore_table.proofs.Merging.{merged-values}
use Rattle.restore_table.proofs.Rows.{defaults-compact}

-- no value nests deeper
abbrev pub Nest : ℕ → List Pair → Type 0
Nest limit ms = AllByRecursion (λ (m : Pair). IsCompact limit m.1) ms

to_pairs : (limit : ℕ) (ms : List Member) → AllByRecursion (λ (m : Member). IsCompact limit m.value) ms
    → Nest limit (pairs ms)
to_pairs limit [] each = tt
to_pairs limit (m ∷ ms) each = (each.0, to_pairs limit ms each.1)

from_pairs : (limit : ℕ) (ms : List Member) → Nest limit (pairs ms)
    → AllByRecursion (λ (m : Member). IsCompact limit m.value) ms
from_pairs limit [] each = tt
from_pairs limit (m ∷ ms) each = (each.0, from_pairs limit ms each.1)

pub nest-pairs : (limit : ℕ) (ms : List Member) → All (λ (m : Member). IsCompact limit m.value) ms
    → Nest limit (pairs ms)
nest-pairs limit ms each = to_pairs limit ms (recursion_from_All (λ (m : Member). IsCompact limit m.value) ms each)

pub members-nest : (limit : ℕ) (ms : List Member) (made : List Pair) → pairs ms ≡ made → Nest limit made
    → All (λ (m : Member). IsCompact limit m.value) ms
members-nest limit ms made same each =
    All-from_recursion (λ (m : Member). IsCompact limit m.value) ms
    (from_pairs limit ms (subst (Nest limit) (sym same) each))

deeper : (limit : ℕ) (ms : List Pair) → 1 ≤ limit → Nest 1 ms → Nest limit ms
deeper limit [] wide each = tt
deeper limit (m ∷ ms) wide each = (Value-deeper wide each.0, deeper limit ms wide each.1)

pub merged-nests : (limit : ℕ) (ws all : List Member) → 2 ≤ limit → All (λ (m : Member). IsCompact limit m.value) ws
    → pairs all ≡ merged (pairs ws) defaults →
    All (λ (m : Member). IsCompact limit m.value) all
merged-nests limit ws all wide each same =
    members-nest limit all (merged (pairs ws) defaults) same
    (merged-values (IsCompact limit) (pairs ws) defaults (nest-pairs limit ws each)
    (deeper limit defaults (omega arith) defaults-compact))

pub filter-nests : (limit : ℕ) (name : List ℕ) (ms : List Pair) → Nest limit ms
    → Nest limit (filter (has_other_name name) ms)
filter-nests limit name [] each = tt
filter-nests limit name (m ∷ ms) each =
    elim (has_other_name name m) as (λ b. Nest limit
    (cond b (m ∷ filter (has_other_name name) ms) (filter (has_other_name name) ms))) [
      | true ↦ (each.0, filter-nests limit name ms each.1)
      | false ↦ filter-nests limit name ms each.1
    ]

pub push-nests : (limit : ℕ) (m : Pair) (ms : List Pair) → Nest limit ms → IsCompact limit m.1
    → Nest limit (ms ++ m ∷ [])
push-nests limit m [] each one = (one, tt)
push-nests limit m (n ∷ ns) each one = (each.0, push-nests limit m ns each.1 one)
