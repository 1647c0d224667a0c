use Rattle.library.proofs.LibraryLaws.{library-only, library-own}
use Rattle.library.proofs.laws.library_is_its_own.Goals as goal

pub returns-clause-own : goal.returns-clause-own
returns-clause-own c = library-own

pub returns-clause-only : goal.returns-clause-only
returns-clause-only c = library-only
