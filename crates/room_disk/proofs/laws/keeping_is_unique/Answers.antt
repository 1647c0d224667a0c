use Rattle.room_disk.proofs.KeptTraces.{keeping-once}
use Rattle.room_disk.proofs.laws.keeping_is_unique.Goals as goal

pub returns : goal.returns
returns c = keeping-once
