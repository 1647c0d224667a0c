use Rattle.reconcile.proofs.HeldIds.{HasDropped-old}
use Rattle.reconcile.proofs.held.Held.drop_id.Goals as goal

pub returns : goal.returns
returns c = rw (← c.self.view_is) (HasDropped-old c.self.inside.ids.keys c.args.id.now c.remove.new.self.keys
    c.remove.ensures.ordered c.remove.ensures.updates.0)
