use Rattle.room_disk.proofs.StopLaws.{stopped}
use Rattle.room_disk.proofs.laws.first_records_are_recovered.Goals as goal

pub returns : goal.returns
returns c = stopped c.stores_join.ensures c.text_is_read_back.ensures
