use Rattle.std.proofs.Common.{◌≡◌, ℕ, List, ◌||◌, nat_cmp, take}
use Rattle.std.specs.BTreeSet.{contains}
use Rattle.std.specs.Cmp.Lexicographic.{slice_cmp}
use Rattle.elem_store.specs.Updates.{is_among}
use Rattle.effects.proofs.concerning.add_all.Given as goal

abbrev pub invariant-loop-id : goal.invariant-loop-id
invariant-loop-id l =
    (id : List ℕ) → contains (slice_cmp nat_cmp) l.ids id
    ≡ (is_among (take l.id-index l.others) id || contains (slice_cmp nat_cmp) l.initial.ids id)
