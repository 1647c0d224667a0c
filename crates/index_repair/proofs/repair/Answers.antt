use Rattle.index_repair.proofs.RepairLaws.{all-below}
use Rattle.index_repair.proofs.repair.Goals as goal

pub repair_part-requires : goal.repair_part-requires
repair_part-requires c = all-below c.args.keys.now
