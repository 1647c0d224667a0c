use Rattle.undo_model.proofs.StepLaws.{step-stops, full-is, full-least, full-none}
use Rattle.undo_model.proofs.laws.step_stops_at_the_least.Goals as goal

pub returns-clause-stops : goal.returns-clause-stops
returns-clause-stops c = step-stops

pub returns-clause-full : goal.returns-clause-full
returns-clause-full c = full-is

pub returns-clause-least : goal.returns-clause-least
returns-clause-least c = full-least

pub returns-clause-none : goal.returns-clause-none
returns-clause-none c = full-none
