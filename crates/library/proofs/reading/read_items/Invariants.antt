-- the values so far say these items
use Rattle.std.proofs.Common.{take}
use Rattle.library.specs.Reading.{AreItemsIn}
use Rattle.library.proofs.reading.read_items.Given as goal

abbrev pub invariant-loop-place : goal.invariant-loop-place
invariant-loop-place l = AreItemsIn (take l.place l.values) l.items.items
