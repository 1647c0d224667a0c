-- The elements that are taken are stored.
use Rattle.room_core.proofs.changing.put_change.Goals as goal

pub returns-in-Take-clause-elements : goal.returns-in-Take-clause-elements
returns-in-Take-clause-elements c = rw c.in-Take.is c.take_all.ensures
