-- What is stored of each id determines a list in which the ids rise.
use Rattle.elem_store.proofs.StoreLaws.{store-unique}
use Rattle.elem_store.proofs.laws.store_is_unique.Goals as goal

pub returns : goal.returns
returns c = store-unique
