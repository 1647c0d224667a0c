-- The first members are appended, and the others are left.
use Rattle.std.proofs.Common.{drop}
use Rattle.elem.proofs.Merging.{Parted}
use Rattle.elem.proofs.object.push_members.Given as goal

abbrev pub invariant-loop-i : goal.invariant-loop-i
invariant-loop-i l =
    Parted l.start l.initial.out.items l.out.items (drop l.at l.members) (drop l.i l.members)
