use Rattle.index_repair.proofs.RepairLaws.{kept-law}
use Rattle.index_repair.proofs.laws.greater_keys_are_kept.Goals as goal

pub returns : goal.returns
returns c = kept-law
