use Rattle.std.proofs.Common.{◌≡◌, ◌++◌}
use Rattle.room_disk.specs.Resuming.{filled_above}
use Rattle.room_disk.proofs.resuming.filled_above.Given as goal

-- the elements so far are filled, and the others follow above the last key
abbrev pub invariant-loop-e : goal.invariant-loop-e
invariant-loop-e l =
    filled_above l.fn.greatest l.fn.elements.items ≡ l.filled.items ++ filled_above l.last l.e-iterator.rest.items
