use Rattle.std.proofs.Common.{◌-◌, ◌≤◌, ℕ, List as Items, ◌++◌, length, take}
use Rattle.room_disk.specs.inner.UnderWay.{StandsIn}
use Rattle.room_disk.proofs.recovering.take_piece.Given as goal

-- the piece is taken so far
abbrev pub invariant-stretches : goal.invariant-stretches
invariant-stretches l = record {
  within : l.at ≤ length l.piece;
  taken : (stream : Items ℕ) → StandsIn stream l.fn.begun.items l.fn.recovery
      → StandsIn (stream ++ take l.at l.piece) l.begun.items l.recovery;
}

abbrev pub decreases-stretches : goal.decreases-stretches
decreases-stretches l = length l.piece - l.at
