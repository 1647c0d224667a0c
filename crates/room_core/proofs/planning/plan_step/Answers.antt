use Rattle.room_core.proofs.Steps.{planned-closed}
use Rattle.room_core.proofs.planning.plan_step.Goals as goal

pub returns-in-Closed-clause-planned : goal.returns-in-Closed-clause-planned
returns-in-Closed-clause-planned c = rw (c.in-Closed.is, c.quiet-in-Closed.ensures)
    (planned-closed (record { elements = c.args.store.now.elements; joined = c.args.joined.now.items })
    c.in-Closed.link)
