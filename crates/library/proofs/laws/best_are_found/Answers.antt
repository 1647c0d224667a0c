use Rattle.library.proofs.BestLaws.{best-found, best-none}
use Rattle.library.proofs.laws.best_are_found.Goals as goal

pub returns-clause-found : goal.returns-clause-found
returns-clause-found c = best-found

pub returns-clause-none : goal.returns-clause-none
returns-clause-none c = best-none
