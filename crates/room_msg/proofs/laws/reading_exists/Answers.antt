use Rattle.room_msg.proofs.Existing.{message-or-fault}
use Rattle.room_msg.proofs.laws.reading_exists.Goals as goal

pub returns : goal.returns
returns c = message-or-fault
