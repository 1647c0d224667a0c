use Rattle.elem_read.proofs.Unique.{element-moved, fault-moved, selection-moved}
use Rattle.elem_read.proofs.laws.order_of_members_plays_no_part.Goals as goal

pub returns-clause-element : goal.returns-clause-element
returns-clause-element c = element-moved

pub returns-clause-fault : goal.returns-clause-fault
returns-clause-fault c = fault-moved

pub returns-clause-selection : goal.returns-clause-selection
returns-clause-selection c = selection-moved
