use Rattle.room_msg.proofs.Back.{read-back}
use Rattle.room_msg.proofs.laws.text_is_read_back.Goals as goal

pub returns : goal.returns
returns c = read-back
