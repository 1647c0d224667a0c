use Rattle.reconcile.proofs.HeldIds.{HasAdded-new}
use Rattle.reconcile.proofs.held.Held.add.Goals as goal

pub returns-clause-added : goal.returns-clause-added
returns-clause-added c =
    rw (← c.self.view_is, ← c.in_ok-try_clone.ensures)
    (HasAdded-new c.self.inside.ids.keys c.in_ok-try_clone.field-0 c.insert.new.self.keys c.in_ok-insert.ensures.ordered
    c.in_ok-insert.ensures.updates.0)
