use Rattle.library.proofs.LibraryLaws.{libraries-join}
use Rattle.library.proofs.laws.libraries_join.Goals as goal

pub returns : goal.returns
returns c = libraries-join
