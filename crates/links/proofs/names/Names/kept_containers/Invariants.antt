use Rattle.std.proofs.Common.{◌≡◌, map, take}
use Rattle.links.specs.Texts.{keeps_container}
use Rattle.links.proofs.names.Names.kept_containers.Given as goal

abbrev pub invariant-loop-e : goal.invariant-loop-e
invariant-loop-e l = l.kept.items ≡ map (keeps_container l.self) (take l.e-index l.self)
