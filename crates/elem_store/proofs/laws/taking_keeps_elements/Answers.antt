use Rattle.elem_store.proofs.StoreLaws.{elements-taken}
use Rattle.elem_store.proofs.laws.taking_keeps_elements.Goals as goal

pub returns : goal.returns
returns c = elements-taken
