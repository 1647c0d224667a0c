-- The best updates of an id are all the same.
use Rattle.elem_store.proofs.StoreLaws.{AreStored-from_best}
use Rattle.elem_store.proofs.laws.best_are_stored.Goals as goal

pub returns : goal.returns
returns c = AreStored-from_best
