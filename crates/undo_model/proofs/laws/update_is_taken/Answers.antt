use Rattle.undo_model.proofs.TakenLaws.{taken-has, taken-is}
use Rattle.undo_model.proofs.laws.update_is_taken.Goals as goal

pub returns-clause-has : goal.returns-clause-has
returns-clause-has c = taken-has

pub returns-clause-only : goal.returns-clause-only
returns-clause-only c = taken-is
