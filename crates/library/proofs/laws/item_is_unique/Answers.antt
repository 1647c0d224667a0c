use Rattle.library.proofs.ItemOnce.{item-faultless, item-once, item_fault-once}
use Rattle.library.proofs.laws.item_is_unique.Goals as goal

pub returns-clause-once : goal.returns-clause-once
returns-clause-once c = item-once

pub returns-clause-fault : goal.returns-clause-fault
returns-clause-fault c = item_fault-once

pub returns-clause-none : goal.returns-clause-none
returns-clause-none c = item-faultless
