use Rattle.std.proofs.Common.{take}
use Rattle.clips.specs.Placed.{AreReadFrom}
use Rattle.clips.proofs.reading.read_placed.Given as goal

abbrev pub invariant-loop-place : goal.invariant-loop-place
invariant-loop-place l = AreReadFrom 0 (take l.place l.values) l.placed.items
