-- No update is found.
use Rattle.std.proofs.Common.{refl}
use Rattle.elem_store.specs.Updates.{stored_of}
use Rattle.elem_store.proofs.laws.empty_is_stored.Goals as goal

pub returns : goal.returns
unfolding stored_of
returns c = record { ordered = refl; each = λ id. refl }
