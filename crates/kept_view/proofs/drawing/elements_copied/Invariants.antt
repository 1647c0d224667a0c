use Rattle.std.proofs.Common.{◌≡◌, take}
use Rattle.kept_view.proofs.drawing.elements_copied.Given as goal

abbrev pub invariant-loop-e : goal.invariant-loop-e
invariant-loop-e l = l.copies.items ≡ take l.e-index l.elements.items
