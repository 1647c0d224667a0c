use Rattle.std.proofs.Common.{◌≡◌, take}
use Rattle.view.specs.inner.Spots.{elements_of}
use Rattle.view.proofs.view.copied.Given as goal

abbrev pub invariant-loop-spot : goal.invariant-loop-spot
invariant-loop-spot l = l.elements.items ≡ elements_of (take l.spot-index l.spots.items)
