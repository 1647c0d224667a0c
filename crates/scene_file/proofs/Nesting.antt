-- What nests in members that nest.
use Rattle.std.proofs.Common.{◌≡◌, ℕ, zero, suc, ◌<◌, List, [], ◌∷◌, Option, Some, None, Bool, true, false, cond, length, get_or, bytes_eq, refl, sym, subst, arith, lit≤}
use Rattle.std.specs.List.{IsDistinct}
use Rattle.json_text.specs.Compact.{Member as Pair}
use Rattle.json_text.specs.Members.{pairs}
use Rattle.json_text.specs.Parts.{AreMembers}
use Rattle.json_text.specs.Tree.{null_word}
use Rattle.json_text.specs.Value.{IsCompact}
use Rattle.json_text.specs.declared.text.Member.{Member}
use Rattle.scene_json.specs.Named.{value_at}
use Rattle.elem_read.proofs.CallerLemmas.{found-has, object-nests}
use Rattle.file_table.specs.Table.{EntriesNest}
use Rattle.scene_file.specs.Reading.{value_unless_null, HasMembers}

pub nests-at : (limit : ℕ) (members : List Member) (i : ℕ) (member : Member) → EntriesNest limit (pairs members)
    → i < length members → member ≡ get_or members i member → IsCompact limit member.value
nests-at limit [] i member nest within is = absurd (omega arith)
nests-at limit (m ∷ members) zero member nest within is =
    subst (λ (x : Member). IsCompact limit x.value) (sym is) nest.0
nests-at limit (m ∷ members) (suc i) member nest within is = nests-at limit members i member nest.1 (omega arith) is

-- what is given is found
pub value_unless_null-found : (name : List ℕ) (members : List Pair) (value : List ℕ)
    → value_unless_null name members ≡ Some value → value_at name members ≡ Some value
value_unless_null-found name members value e =
    elim (value_at name members) as (λ (found : Option (List ℕ)). elim found [
      | None ↦ None
      | Some v ↦ cond (bytes_eq v null_word) None (Some v)
    ] ≡ Some value → found ≡ Some value) [
      | None ↦ λ none. none
      | Some v ↦ λ here. elim (bytes_eq v null_word) as (λ (b : Bool). cond b None (Some v) ≡ Some value
          → Some v ≡ Some value) [
            | true ↦ λ none. cc
            | false ↦ λ is. is
          ] here
    ] e

nothing : AreMembers 126 []
unfolding IsDistinct
nothing = record { named = tt; valued = tt; distinct = tt }

-- what is given in an object nests less deep
pub nests-value_unless_null : (name : List ℕ) (members others : List Pair) → AreMembers 127 members
    → HasMembers (value_unless_null name members) others → AreMembers 126 others
nests-value_unless_null name members others are has =
    elim (value_unless_null name members) as (λ (found : Option (List ℕ)). value_unless_null name members ≡ found
    → HasMembers found others → AreMembers 126 others) [
      | None ↦ λ e none. subst (AreMembers 126) (sym none) nothing
      | Some value ↦ λ e object.
          object-nests 127 value others (lit≤ tt) (lit≤ tt)
          (found-has (λ _ v. IsCompact 127 v) members are.valued name value
          (value_unless_null-found name members value e)) object
    ] refl has
