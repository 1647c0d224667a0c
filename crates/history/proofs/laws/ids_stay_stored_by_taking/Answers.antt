use Rattle.history.proofs.StepLaws.{ids-taken}
use Rattle.history.proofs.laws.ids_stay_stored_by_taking.Goals as goal

pub returns : goal.returns
returns c = ids-taken
