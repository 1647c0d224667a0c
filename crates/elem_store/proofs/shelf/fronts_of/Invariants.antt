use Rattle.std.proofs.Common.{◌≡◌, map, take}
use Rattle.elem_store.specs.inner.Fronts.{front_at}
use Rattle.elem_store.proofs.shelf.fronts_of.Given as goal

abbrev pub invariant-loop-e : goal.invariant-loop-e
invariant-loop-e l = l.fronts.items ≡ map front_at (take l.e-index l.e-items)
