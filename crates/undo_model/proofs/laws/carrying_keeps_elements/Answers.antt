use Rattle.undo_model.proofs.TakenLaws.{carried_all-elements, carried_all-rising, takings-elements}
use Rattle.undo_model.proofs.laws.carrying_keeps_elements.Goals as goal

pub returns-clause-elements : goal.returns-clause-elements
returns-clause-elements c = carried_all-elements

pub returns-clause-ordered : goal.returns-clause-ordered
returns-clause-ordered c = carried_all-rising

pub returns-clause-takings : goal.returns-clause-takings
returns-clause-takings c = takings-elements
