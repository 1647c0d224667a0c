use Rattle.session_text.proofs.SessionsOne.{session-once, fault-once, fault-apart-session}
use Rattle.session_text.proofs.laws.reading_is_unique.Goals as goal

pub returns-clause-session : goal.returns-clause-session
returns-clause-session c = session-once

pub returns-clause-fault : goal.returns-clause-fault
returns-clause-fault c = fault-once

pub returns-clause-faultless : goal.returns-clause-faultless
returns-clause-faultless c = fault-apart-session
