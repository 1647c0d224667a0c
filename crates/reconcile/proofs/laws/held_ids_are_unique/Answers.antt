use Rattle.reconcile.proofs.HeldIds.{held-unique}
use Rattle.reconcile.proofs.laws.held_ids_are_unique.Goals as goal

pub returns : goal.returns
returns c = held-unique
