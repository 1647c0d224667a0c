use Rattle.replica.proofs.Delivering.{empty-stays}
use Rattle.replica.proofs.laws.empty_deliveries_stay.Goals as goal

pub returns : goal.returns
returns c = empty-stays
