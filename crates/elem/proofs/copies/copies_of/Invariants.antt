-- The first elements are copied, and are elements.
use Rattle.std.proofs.Common.{◌≡◌, take}
use Rattle.elem.specs.Said.{AreElements}
use Rattle.elem.proofs.copies.copies_of.Given as goal

abbrev pub invariant-loop-e : goal.invariant-loop-e
invariant-loop-e l = record {
  copies : l.copies.items ≡ take l.e-index l.elements;
  elements : AreElements (take l.e-index l.elements);
}
