use Rattle.index_repair.proofs.RepairLaws.{repaired-rising}
use Rattle.index_repair.proofs.laws.rising_keys_stay.Goals as goal

pub returns : goal.returns
returns c = repaired-rising
