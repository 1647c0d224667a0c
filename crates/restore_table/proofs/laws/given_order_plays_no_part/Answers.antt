use Rattle.restore_table.proofs.RestoredLaws.{restored-order}
use Rattle.restore_table.proofs.laws.given_order_plays_no_part.Goals as goal

pub returns : goal.returns
returns c = restored-order
