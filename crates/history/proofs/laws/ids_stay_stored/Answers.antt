use Rattle.history.proofs.StepLaws.{ids-stored}
use Rattle.history.proofs.laws.ids_stay_stored.Goals as goal

pub returns : goal.returns
returns c = ids-stored
