use Rattle.std.proofs.Common.{sym, subst}
use Rattle.elem_store.specs.Updates.{AreStored}
use Rattle.reconcile.proofs.taking.reconcile.Goals as goal

pub returns-clause-stored : goal.returns-clause-stored
returns-clause-stored c updates are =
    rw (← c.in_ok-copies.ensures, ← c.from_vec.ensures)
    (c.take_all.ensures updates (subst (AreStored updates) (sym c.in_ok-reserve.ensures.elements) are))
