use Rattle.room_msg.specs.Texts.{message_text}
use Rattle.room_msg.proofs.printing.update_text.Goals as goal

pub returns : goal.returns
unfolding message_text
returns c = c.tagged_text.ensures
