use Rattle.elem_store.proofs.StoreLaws.{ids-stay}
use Rattle.elem_store.proofs.laws.ids_stay_stored.Goals as goal

pub returns : goal.returns
returns c = ids-stay
