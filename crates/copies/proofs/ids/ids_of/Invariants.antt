use Rattle.std.proofs.Common.{◌≡◌, ℕ, List, take, nat_cmp}
use Rattle.std.specs.BTreeSet.{contains}
use Rattle.std.specs.Cmp.Lexicographic.{slice_cmp}
use Rattle.copies.specs.Copies.{is_among}
use Rattle.copies.proofs.ids.ids_of.Given as goal

abbrev pub invariant-loop-e : goal.invariant-loop-e
invariant-loop-e l = (id : List ℕ) → contains (slice_cmp nat_cmp) l.ids id ≡ is_among (take l.e-index l.list) id
