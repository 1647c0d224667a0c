use Rattle.library.proofs.Existing.{library-or-fault}
use Rattle.library.proofs.laws.library_or_fault_exists.Goals as goal

pub returns : goal.returns
returns c = library-or-fault
