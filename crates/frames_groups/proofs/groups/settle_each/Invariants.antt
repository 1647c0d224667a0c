-- The groups of the first elements are settled.
use Rattle.std.proofs.Common.{◌≡◌, ◌++◌, map, take, drop}
use Rattle.frames_groups.specs.Groups.{grouped}
use Rattle.frames_groups.proofs.groups.settle_each.Given as goal

abbrev pub invariant-loop-e : goal.invariant-loop-e
invariant-loop-e l = map grouped l.initial.e-items ≡ take l.e-index l.e-items ++ map grouped (drop l.e-index l.e-items)
