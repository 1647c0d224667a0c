use Rattle.library.proofs.Whole.{library-back, library-compact}
use Rattle.library.proofs.laws.library_is_read_back.Goals as goal

pub returns-clause-read : goal.returns-clause-read
returns-clause-read c = library-back

pub returns-clause-compact : goal.returns-clause-compact
returns-clause-compact c = library-compact
