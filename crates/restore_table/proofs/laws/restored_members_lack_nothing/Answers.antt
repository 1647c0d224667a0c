use Rattle.restore_table.proofs.RestoredLaws.{restored-lack}
use Rattle.restore_table.proofs.laws.restored_members_lack_nothing.Goals as goal

pub returns : goal.returns
returns c = restored-lack
