use Rattle.library.proofs.BestLaws.{AreBest-append}
use Rattle.library.proofs.laws.best_join.Goals as goal

pub returns : goal.returns
returns c = AreBest-append
