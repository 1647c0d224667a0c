use Rattle.library.proofs.BestLaws.{AreBest-best, AreBest-itself}
use Rattle.library.proofs.laws.best_are_best.Goals as goal

pub returns-clause-rising : goal.returns-clause-rising
returns-clause-rising c = AreBest-itself

pub returns-clause-best : goal.returns-clause-best
returns-clause-best c = AreBest-best
