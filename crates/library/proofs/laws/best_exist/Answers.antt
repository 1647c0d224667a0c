use Rattle.library.proofs.BestLaws.{best-exist, none_best}
use Rattle.library.proofs.laws.best_exist.Goals as goal

pub returns-clause-none : goal.returns-clause-none
returns-clause-none c = none_best

pub returns-clause-all : goal.returns-clause-all
returns-clause-all c = best-exist
