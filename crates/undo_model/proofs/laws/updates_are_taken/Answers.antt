use Rattle.undo_model.proofs.TakenLaws.{taken_all-stored, taken_all-is, taken_all-elements}
use Rattle.undo_model.proofs.laws.updates_are_taken.Goals as goal

pub returns-clause-stored : goal.returns-clause-stored
returns-clause-stored c = taken_all-stored

pub returns-clause-only : goal.returns-clause-only
returns-clause-only c = taken_all-is

pub returns-clause-elements : goal.returns-clause-elements
returns-clause-elements c = taken_all-elements
