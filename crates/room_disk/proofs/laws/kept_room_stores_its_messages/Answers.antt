use Rattle.room_disk.proofs.KeptRounds.{kept-stored}
use Rattle.room_disk.proofs.laws.kept_room_stores_its_messages.Goals as goal

pub returns : goal.returns
returns c = kept-stored
