use Rattle.workload.specs.Texts.{order_text}
use Rattle.workload.proofs.texts.push_order.Goals as goal

pub returns-in-SetX : goal.returns-in-SetX
unfolding order_text
returns-in-SetX c = rw c.in-SetX.is c.push_set.ensures

pub returns-in-SetY : goal.returns-in-SetY
unfolding order_text
returns-in-SetY c = rw c.in-SetY.is c.push_set-in-SetY.ensures
