use Rattle.view.proofs.StepLaws.{settled-looks, settled-seen}
use Rattle.view.proofs.steps.what_is_seen_is_enough.Goals as goal

pub returns-clause-alike : goal.returns-clause-alike
returns-clause-alike c = settled-looks

pub returns-clause-alone : goal.returns-clause-alone
returns-clause-alone c = settled-seen
