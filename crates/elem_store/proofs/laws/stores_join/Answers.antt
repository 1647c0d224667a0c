-- The better one of two bests is the best of all.
use Rattle.elem_store.proofs.StoreLaws.{AreStored-append}
use Rattle.elem_store.proofs.laws.stores_join.Goals as goal

pub returns : goal.returns
returns c = AreStored-append
