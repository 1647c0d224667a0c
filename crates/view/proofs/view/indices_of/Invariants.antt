use Rattle.std.proofs.Common.{◌≡◌, take}
use Rattle.view.specs.inner.Spots.{indices_of}
use Rattle.view.proofs.view.indices_of.Given as goal

abbrev pub invariant-loop-spot : goal.invariant-loop-spot
invariant-loop-spot l = l.indices.items ≡ indices_of (take l.spot-index l.spots.items)
