use Rattle.undo_model.proofs.DifferingLaws.{differ-true, differ-false}
use Rattle.undo_model.proofs.laws.differing_is_told.Goals as goal

pub returns-clause-differ : goal.returns-clause-differ
returns-clause-differ c = differ-true

pub returns-clause-same : goal.returns-clause-same
returns-clause-same c = differ-false
