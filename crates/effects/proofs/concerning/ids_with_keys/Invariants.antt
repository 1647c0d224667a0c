use Rattle.std.proofs.Common.{◌≡◌, ℕ, List, ◌||◌, is_some, nat_cmp}
use Rattle.std.specs.BTreeMap as tree
use Rattle.std.specs.BTreeSet.{contains}
use Rattle.std.specs.Cmp.Lexicographic.{slice_cmp}
use Rattle.elem_store.specs.Updates.{is_among}
use Rattle.effects.proofs.concerning.ids_with_keys.Given as goal

-- those that are there and those that are left are all
abbrev pub invariant-loop-id : goal.invariant-loop-id
invariant-loop-id l =
    (id : List ℕ) → (contains (slice_cmp nat_cmp) l.ids id || is_among l.id-iterator id)
    ≡ is_some (tree.get (slice_cmp nat_cmp) l.keys id)
