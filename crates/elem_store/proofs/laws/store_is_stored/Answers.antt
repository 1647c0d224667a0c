-- Each element is the one update of its id.
use Rattle.elem_store.proofs.StoreLaws.{AreStored-itself}
use Rattle.elem_store.proofs.laws.store_is_stored.Goals as goal

pub returns : goal.returns
returns c = AreStored-itself
