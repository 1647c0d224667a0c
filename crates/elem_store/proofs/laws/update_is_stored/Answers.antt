-- A further update changes the stored element of its own id alone.
use Rattle.elem_store.proofs.StoreLaws.{AreStored-push}
use Rattle.elem_store.proofs.laws.update_is_stored.Goals as goal

pub returns : goal.returns
returns c = AreStored-push
