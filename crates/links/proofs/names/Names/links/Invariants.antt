use Rattle.std.proofs.Common.{◌≡◌, map, take}
use Rattle.links.specs.Tables.{links_of}
use Rattle.links.proofs.names.Names.links.Given as goal

abbrev pub invariant-loop-e : goal.invariant-loop-e
invariant-loop-e l = l.links.items ≡ map (links_of l.self) (take l.e-index l.self)
