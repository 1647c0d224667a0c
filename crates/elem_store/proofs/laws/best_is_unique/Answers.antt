-- Two best updates of an id are tied.
use Rattle.elem_store.proofs.StoreLaws.{bests-same}
use Rattle.elem_store.proofs.laws.best_is_unique.Goals as goal

pub returns : goal.returns
returns c = bests-same
