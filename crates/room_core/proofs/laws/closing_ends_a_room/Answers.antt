use Rattle.room_core.proofs.Closing.{closing-ends}
use Rattle.room_core.proofs.laws.closing_ends_a_room.Goals as goal

pub returns : goal.returns
returns c = closing-ends
