-- The frame names of the first elements are settled.
use Rattle.std.proofs.Common.{◌≡◌, ◌++◌, map, take, drop, nat_cmp}
use Rattle.std.specs.BTreeSet.{contains}
use Rattle.std.specs.Cmp.Lexicographic.{slice_cmp}
use Rattle.frames_groups.specs.Frames.{framed}
use Rattle.frames_groups.proofs.frames.settle_each.Given as goal

abbrev pub invariant-loop-e : goal.invariant-loop-e
invariant-loop-e l =
    let settled = framed (contains (slice_cmp nat_cmp) l.frames) in
    map settled l.initial.e-items ≡ take l.e-index l.e-items ++ map settled (drop l.e-index l.e-items)
