use Rattle.std.proofs.Common.{[], refl, ◌∙◌}
use Rattle.elem_store.proofs.StoreLaws.{AreStored-itself}
use Rattle.elem_store.proofs.store.taken.Goals as goal

pub returns : goal.returns
returns c =
    rw (← c.into_vec-elements.ensures, ← c.from_vec.ensures) (c.take_all.ensures []
    (rw (c.reserve.ensures.elements ∙ c.new-store.ensures) (AreStored-itself [] refl)))
