use Rattle.std.proofs.Common.{◌≡◌, take}
use Rattle.reconcile.specs.Ids.{free_elements}
use Rattle.reconcile.proofs.taking.free_copies.Given as goal

abbrev pub invariant-loop-e : goal.invariant-loop-e
invariant-loop-e l = l.copies.items ≡ free_elements l.held (take l.e-index l.list)
