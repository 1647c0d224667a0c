use Rattle.elem_read.proofs.Unique.{element-once, fault-once, element-faultless, element-kept, fault-dropped}
use Rattle.elem_read.proofs.laws.reading_is_unique.Goals as goal

pub returns-clause-element : goal.returns-clause-element
returns-clause-element c = element-once

pub returns-clause-fault : goal.returns-clause-fault
returns-clause-fault c = fault-once

pub returns-clause-faultless : goal.returns-clause-faultless
returns-clause-faultless c = element-faultless

pub returns-clause-kept : goal.returns-clause-kept
returns-clause-kept c = element-kept

pub returns-clause-dropped : goal.returns-clause-dropped
returns-clause-dropped c = fault-dropped
