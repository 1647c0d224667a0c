use Rattle.std.proofs.Common.{◌≡◌, ℕ, List, ◌||◌, nat_cmp, take}
use Rattle.std.specs.BTreeSet.{contains}
use Rattle.std.specs.Cmp.Lexicographic.{slice_cmp}
use Rattle.std.specs.List.{list_any}
use Rattle.links.specs.Rows.{is_for}
use Rattle.effects.proofs.concerning.add_named.Given as goal

abbrev pub invariant-loop-row : goal.invariant-loop-row
invariant-loop-row l =
    (id : List ℕ) → contains (slice_cmp nat_cmp) l.ids id
    ≡ (list_any (is_for id) (take l.row-index l.row-items) || contains (slice_cmp nat_cmp) l.initial.ids id)
