use Rattle.undo_model.proofs.DifferingLaws.{changed-true, changed-false, changed-is}
use Rattle.undo_model.proofs.laws.changed_is_told.Goals as goal

pub returns-clause-changed : goal.returns-clause-changed
returns-clause-changed c = changed-true

pub returns-clause-unchanged : goal.returns-clause-unchanged
returns-clause-unchanged c = changed-false

pub returns-clause-told : goal.returns-clause-told
returns-clause-told c = changed-is
