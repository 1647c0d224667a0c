use Rattle.std.proofs.Common.{take}
use Rattle.elem_read.specs.Elements.{AreRead}
use Rattle.elem_read.proofs.reading.read_elements.Given as goal

abbrev pub invariant-loop-place : goal.invariant-loop-place
invariant-loop-place l = AreRead (take l.place l.values) l.elements.items
