use Rattle.room_msg.specs.Texts.{message_text}
use Rattle.room_msg.proofs.printing.message_text.Goals as goal

pub returns-in-Init : goal.returns-in-Init
unfolding message_text
returns-in-Init c = rw c.in-Init.is c.tagged_text.ensures

pub returns-in-Update : goal.returns-in-Update
returns-in-Update c = rw c.in-Update.is c.update_text.ensures

pub returns-in-Presence : goal.returns-in-Presence
unfolding message_text
returns-in-Presence c = rw (c.in-Presence.is, ← c.as_bytes.ensures.value) c.from_slice.ensures
