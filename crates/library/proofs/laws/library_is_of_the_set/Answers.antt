use Rattle.library.proofs.LibraryLaws.{library-of_set}
use Rattle.library.proofs.laws.library_is_of_the_set.Goals as goal

pub returns : goal.returns
returns c = library-of_set
