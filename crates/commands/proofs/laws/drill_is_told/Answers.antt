use Rattle.workload.specs.Drills.{drill_session}
use Rattle.commands.proofs.Drills.{drilled-exists, drilled-once}
use Rattle.commands.proofs.laws.drill_is_told.Goals as goal

pub returns-clause-exists : goal.returns-clause-exists
returns-clause-exists c drill is = drilled-exists drill (drill_session drill.seed drill.events)
    (c.drill_is_read.ensures.read drill.seed drill.events is.seed is.most)

pub returns-clause-unique : goal.returns-clause-unique
returns-clause-unique c = drilled-once
