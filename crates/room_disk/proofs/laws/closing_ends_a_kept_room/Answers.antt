use Rattle.room_disk.proofs.KeptClosing.{kept-closing}
use Rattle.room_disk.proofs.laws.closing_ends_a_kept_room.Goals as goal

pub returns : goal.returns
returns c = kept-closing
