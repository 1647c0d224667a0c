use Rattle.undo_model.proofs.DifferingLaws.{pending-entry, pending-stands}
use Rattle.undo_model.proofs.laws.pending_is_an_entry.Goals as goal

pub returns-clause-entry : goal.returns-clause-entry
returns-clause-entry c = pending-entry

pub returns-clause-stands : goal.returns-clause-stands
returns-clause-stands c = pending-stands
