use Rattle.library.proofs.LibraryLaws.{library-whole}
use Rattle.library.proofs.laws.read_items_are_whole.Goals as goal

pub returns : goal.returns
returns c = library-whole
