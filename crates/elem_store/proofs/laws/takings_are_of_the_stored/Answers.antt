use Rattle.elem_store.proofs.StoreLaws.{takings-stored}
use Rattle.elem_store.proofs.laws.takings_are_of_the_stored.Goals as goal

pub returns : goal.returns
returns c = takings-stored
