use Rattle.session_text.proofs.SessionsOne.{session-or-fault}
use Rattle.session_text.proofs.laws.reading_exists.Goals as goal

pub returns : goal.returns
returns c = session-or-fault
