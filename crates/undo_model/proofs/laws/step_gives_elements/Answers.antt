use Rattle.undo_model.proofs.StepLaws.{given-rise, given-elements, made-entry}
use Rattle.undo_model.proofs.laws.step_gives_elements.Goals as goal

pub returns-clause-elements : goal.returns-clause-elements
returns-clause-elements c = given-elements

pub returns-clause-made : goal.returns-clause-made
returns-clause-made c = made-entry

pub returns-clause-ordered : goal.returns-clause-ordered
returns-clause-ordered c = given-rise
