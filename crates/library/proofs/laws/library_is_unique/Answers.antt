use Rattle.library.proofs.LibraryOnce.{lib_fault-once, library-faultless, library-once}
use Rattle.library.proofs.laws.library_is_unique.Goals as goal

pub returns-clause-once : goal.returns-clause-once
returns-clause-once c = library-once

pub returns-clause-fault : goal.returns-clause-fault
returns-clause-fault c = lib_fault-once

pub returns-clause-none : goal.returns-clause-none
returns-clause-none c = λ text items fault is. library-faultless text items is fault
