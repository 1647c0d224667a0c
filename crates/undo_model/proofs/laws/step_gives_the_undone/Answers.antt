use Rattle.undo_model.proofs.StepLaws.{given-each, given-all, given-taken}
use Rattle.undo_model.proofs.laws.step_gives_the_undone.Goals as goal

pub returns-clause-each : goal.returns-clause-each
returns-clause-each c = given-each

pub returns-clause-all : goal.returns-clause-all
returns-clause-all c = given-all

pub returns-clause-taken : goal.returns-clause-taken
returns-clause-taken c = given-taken
