use Rattle.line_replica.proofs.Turned.{repeats}
use Rattle.line_replica.proofs.laws.redo_repeats.Goals as goal

pub returns : goal.returns
returns c = repeats c.read_messages_are_whole.ensures c.redo_repeats.ensures.again
