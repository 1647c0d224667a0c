use Rattle.restore_table.proofs.RestoredLaws.{restored-unique}
use Rattle.restore_table.proofs.laws.restored_members_are_unique.Goals as goal

pub returns : goal.returns
returns c = restored-unique
