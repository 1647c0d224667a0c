use Rattle.line_replica.proofs.InSession.{in-session}
use Rattle.line_replica.proofs.laws.lines_are_of_a_session.Goals as goal

pub returns : goal.returns
returns c = in-session c.read_messages_are_whole.ensures
