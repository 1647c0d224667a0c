use Rattle.line_replica.proofs.Turned.{brings-back}
use Rattle.line_replica.proofs.laws.undo_brings_back.Goals as goal

pub returns : goal.returns
returns c = brings-back c.read_messages_are_whole.ensures c.undo_brings_back.ensures.back
