-- The members that were passed are appended, and the others are left.
use Rattle.std.proofs.Common.{length, drop}
use Rattle.elem.proofs.Merging.{Passed}
use Rattle.elem.proofs.object.push_below.Given as goal

abbrev pub invariant-loop-next : goal.invariant-loop-next
invariant-loop-next l =
    Passed l.name l.start l.initial.out.items l.out.items (drop l.at l.members) (drop l.left l.members)

abbrev pub decreases-loop-next : goal.decreases-loop-next
decreases-loop-next l = length (drop l.left l.members)
