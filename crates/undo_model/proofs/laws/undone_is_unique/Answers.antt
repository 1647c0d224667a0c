use Rattle.undo_model.proofs.UndoneLaws.{undone-undoes, undone-element, undone-only}
use Rattle.undo_model.proofs.laws.undone_is_unique.Goals as goal

pub returns-clause-undoes : goal.returns-clause-undoes
returns-clause-undoes c = undone-undoes

pub returns-clause-element : goal.returns-clause-element
returns-clause-element c = undone-element

pub returns-clause-only : goal.returns-clause-only
returns-clause-only c pair now of kind isnow _ = undone-only pair now of.0.0 of.1.0 isnow kind
