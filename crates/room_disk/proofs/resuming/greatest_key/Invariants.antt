use Rattle.std.proofs.Common.{◌≡◌, None, drop, option_copied}
use Rattle.room_disk.specs.Resuming.{greatest_key}
use Rattle.room_disk.proofs.resuming.greatest_key.Given as goal

-- the greatest key is that of the key so far and the other elements
abbrev pub invariant-loop-e : goal.invariant-loop-e
invariant-loop-e l =
    greatest_key None l.elements.items ≡ greatest_key (option_copied l.greatest) (drop l.e-index l.elements.items)
