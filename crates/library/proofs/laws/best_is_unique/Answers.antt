use Rattle.library.proofs.LibraryLaws.{best-one}
use Rattle.library.proofs.laws.best_is_unique.Goals as goal

pub returns : goal.returns
returns c = best-one
