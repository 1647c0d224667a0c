-- An element of a store is the first of the best updates of its id.
use Rattle.elem_store.proofs.StoreLaws.{AreStored-best, AreStored-ids}
use Rattle.elem_store.proofs.laws.best_is_stored.Goals as goal

pub returns-clause-best : goal.returns-clause-best
returns-clause-best c = AreStored-best

pub returns-clause-each_id : goal.returns-clause-each_id
returns-clause-each_id c = AreStored-ids
