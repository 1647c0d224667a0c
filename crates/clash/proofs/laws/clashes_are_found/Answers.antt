use Rattle.clash.proofs.FirstLaws.{free-found}
use Rattle.clash.proofs.laws.clashes_are_found.Goals as goal

pub returns : goal.returns
returns c = free-found
