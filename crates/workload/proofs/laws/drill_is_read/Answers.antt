use Rattle.session_text.proofs.CallerLemmas.{session-kept}
use Rattle.workload.specs.Drills.{drill_session}
use Rattle.workload.specs.Texts.{drill_text}
use Rattle.workload.proofs.SessionLaws.{drill-read, drill-is, picks-all}
use Rattle.workload.proofs.laws.drill_is_read.Goals as goal

pub returns-clause-read : goal.returns-clause-read
returns-clause-read c = drill-read

pub returns-clause-limits : goal.returns-clause-limits
returns-clause-limits c = λ seed events small few. session-kept (drill_text seed events) (drill_session seed events)
    (drill-read seed events small few)

pub returns-clause-drill : goal.returns-clause-drill
returns-clause-drill c = drill-is

pub returns-clause-all : goal.returns-clause-all
returns-clause-all c = picks-all
