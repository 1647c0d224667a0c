-- Both lists have the same best updates.
use Rattle.elem_store.proofs.StoreLaws.{stores-converge}
use Rattle.elem_store.proofs.laws.stores_converge.Goals as goal

pub returns : goal.returns
returns c = stores-converge
