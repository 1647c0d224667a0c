use Rattle.std.proofs.Common.{◌≡◌, map, take}
use Rattle.index_repair.specs.Keyed.{index_of}
use Rattle.index_repair.proofs.keyed.indices_of.Given as goal

abbrev pub invariant-loop-e : goal.invariant-loop-e
invariant-loop-e l = l.indices.items ≡ map index_of (take l.e-index l.elements.items)
