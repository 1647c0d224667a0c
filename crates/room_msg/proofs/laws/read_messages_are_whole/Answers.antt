use Rattle.room_msg.proofs.Existing.{whole-message}
use Rattle.room_msg.proofs.laws.read_messages_are_whole.Goals as goal

pub returns : goal.returns
returns c = whole-message
