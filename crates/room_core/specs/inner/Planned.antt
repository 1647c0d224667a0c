-- A step of a room that is planned, and put in place later. This project's own.
-- Only this crate's own bodies and proofs need it.
use Rattle.room_msg.specs.declared.message.Message.{Message}
use Rattle.room_msg.specs.declared.message.Message.TheVariants.{Init, Update, Presence}
use Rattle.room_core.specs.declared.plan.Change.{Change}
use Rattle.room_core.specs.declared.plan.Change.TheVariants.{Take, Unchanged}

-- what a message changes: its updates are taken
abbrev pub change_by : Message → Change
change_by (Init elements) = Take elements
change_by (Update elements) = Take elements
change_by (Presence value) = Unchanged
