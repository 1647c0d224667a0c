-- The stored update of its id is no other one.
use Rattle.elem_store.proofs.StoreLaws.{AreStored-all}
use Rattle.elem_store.proofs.laws.distinct_are_stored.Goals as goal

pub returns : goal.returns
returns c = AreStored-all
