use Rattle.std.proofs.Common.{◌≡◌, map, take, nat_cmp}
use Rattle.std.specs.BTreeSet.{contains}
use Rattle.std.specs.Cmp.Lexicographic.{slice_cmp}
use Rattle.copies.specs.Copies.{copy_among}
use Rattle.copies.proofs.copying.copies.Given as goal

abbrev pub invariant-loop-e : goal.invariant-loop-e
invariant-loop-e l =
    l.copies.items ≡ map (copy_among (contains (slice_cmp nat_cmp) l.ids) l.prefix) (take l.e-index l.list)
