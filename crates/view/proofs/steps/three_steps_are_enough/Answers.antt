use Rattle.view.proofs.StepLaws.{settled-alike, settled-alone, settled-unchanged}
use Rattle.view.proofs.steps.three_steps_are_enough.Goals as goal

pub returns-clause-alike : goal.returns-clause-alike
returns-clause-alike c = settled-alike

pub returns-clause-alone : goal.returns-clause-alone
returns-clause-alone c = settled-alone

pub returns-clause-unchanged : goal.returns-clause-unchanged
returns-clause-unchanged c = settled-unchanged
