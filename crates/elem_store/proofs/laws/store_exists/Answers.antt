use Rattle.elem_store.proofs.Stored.{stored-exist}
use Rattle.elem_store.proofs.laws.store_exists.Goals as goal

pub returns : goal.returns
returns c = stored-exist
