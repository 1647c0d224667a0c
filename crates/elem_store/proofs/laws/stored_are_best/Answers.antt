-- An element of a store is the first of the best updates of its id.
use Rattle.elem_store.proofs.StoreLaws.{AreBest-stored}
use Rattle.elem_store.proofs.laws.stored_are_best.Goals as goal

pub returns : goal.returns
returns c = AreBest-stored
