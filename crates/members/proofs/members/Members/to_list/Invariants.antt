-- The first members are in the list.
use Rattle.std.proofs.Common.{◌≡◌, take}
use Rattle.members.proofs.members.Members.to_list.Given as goal

abbrev pub invariant-loop-at : goal.invariant-loop-at
invariant-loop-at l = l.list.items ≡ take l.at l.self
