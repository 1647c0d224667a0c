use Rattle.elem_store.proofs.StoreLaws.{stored-given, elements-stored}
use Rattle.elem_store.proofs.laws.stored_were_given.Goals as goal

pub returns-clause-among : goal.returns-clause-among
returns-clause-among c = stored-given

pub returns-clause-elements : goal.returns-clause-elements
returns-clause-elements c = elements-stored
