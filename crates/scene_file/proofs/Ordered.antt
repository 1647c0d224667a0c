-- Members that are sorted by their names.
use Rattle.std.proofs.Common.{List, Bool, bytes_eq, nat_cmp, is_lt, sym, subst}
use Rattle.std.specs.Cmp.Lexicographic.{slice_cmp}
use Rattle.std.specs.List.{IsDistinct}
use Rattle.std.specs.List.Sorted.{IsSortedBy, IsPermutation}
use Rattle.std.proofs.lemmas.List.Elements.{recursion_from_All, All-map}
use Rattle.std.proofs.lemmas.List.Sorted.{All-permutation, IsPermutation-map}
use Rattle.json_text.specs.Compact.{Member as Pair}
use Rattle.json_text.specs.Members.{pairs, pair_of}
use Rattle.json_text.specs.Parts.{AreMembers}
use Rattle.json_text.specs.Value.{IsCompact}
use Rattle.json_text.specs.declared.text.Member.{Member}
use Rattle.scene_json.specs.Named.{AreSameMembers, HaveRisingNames}
use Rattle.scene_json.proofs.CallerLemmas.{distinct_moved, same_moved, rising_from_sort, names-pairs, AreMembers-values}
use Rattle.file_table.specs.Table.{EntriesNest}

abbrev pub is_lower : Member → Member → Bool
is_lower a b = is_lt (slice_cmp nat_cmp a.name b.name)

pub record AreOrdered (members ordered : List Member) : Type 0 where
  pub rise : HaveRisingNames (pairs ordered)
  pub same : AreSameMembers (pairs ordered) (pairs members)
  pub nest : EntriesNest 126 (pairs ordered)

pub AreOrdered-from : (members ordered : List Member) → AreMembers 126 (pairs members) → IsPermutation members ordered
    → IsSortedBy is_lower ordered → AreOrdered members ordered
AreOrdered-from members ordered are moved up =
    let pairs_moved = IsPermutation-map pair_of members ordered moved in
    let values = All-permutation (λ (m : Member). IsCompact 126 m.value) members ordered moved
    (AreMembers-values 126 members are) in
    record {
      rise = rising_from_sort ordered up (subst (IsDistinct bytes_eq) (names-pairs ordered)
          (distinct_moved (pairs members) (pairs ordered) pairs_moved are.distinct));
      same = λ name. sym (same_moved (pairs members) (pairs ordered) are.distinct pairs_moved name);
      nest = recursion_from_All (λ (m : Pair). IsCompact 126 m.1) (pairs ordered)
          (All-map (λ (m : Pair). IsCompact 126 m.1) pair_of ordered values);
    }
