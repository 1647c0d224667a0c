use Rattle.undo_model.proofs.StepLaws.{exchanged-entry, step-sound}
use Rattle.undo_model.proofs.laws.step_keeps_entries.Goals as goal

pub returns-clause-exchanged : goal.returns-clause-exchanged
returns-clause-exchanged c = exchanged-entry

pub returns-clause-step : goal.returns-clause-step
returns-clause-step c = step-sound
