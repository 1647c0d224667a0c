-- The first numbers stand between commas.
use Rattle.std.proofs.Common.{◌≡◌, ◌++◌, decimal, map, take}
use Rattle.std.specs.List.{join_with_byte}
use Rattle.workload.proofs.texts.push_numbers.Given as goal

abbrev pub invariant-loop-i : goal.invariant-loop-i
invariant-loop-i l = l.out.items ≡ l.initial.out.items ++ join_with_byte 44 (map decimal (take l.i l.numbers))
