use Rattle.session.proofs.ClashLaws.{clashes-same}
use Rattle.session.proofs.laws.clashes_are_counted_once.Goals as goal

pub returns : goal.returns
returns c = clashes-same
