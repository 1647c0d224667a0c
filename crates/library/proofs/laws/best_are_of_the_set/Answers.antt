use Rattle.library.proofs.BestLaws.{library-same}
use Rattle.library.proofs.LibraryLaws.{best-same}
use Rattle.library.proofs.laws.best_are_of_the_set.Goals as goal

pub returns-clause-texts : goal.returns-clause-texts
returns-clause-texts c = library-same

pub returns-clause-items : goal.returns-clause-items
returns-clause-items c = best-same
