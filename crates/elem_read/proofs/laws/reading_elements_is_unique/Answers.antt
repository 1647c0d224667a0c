-- One value after the other.
use Rattle.elem_read.proofs.ReadElements.{read-once, faulty-once, faultless}
use Rattle.elem_read.proofs.laws.reading_elements_is_unique.Goals as goal

pub returns-clause-elements : goal.returns-clause-elements
returns-clause-elements c = read-once

pub returns-clause-fault : goal.returns-clause-fault
returns-clause-fault c = faulty-once

pub returns-clause-faultless : goal.returns-clause-faultless
returns-clause-faultless c = faultless
