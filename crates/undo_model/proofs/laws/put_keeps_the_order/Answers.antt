use Rattle.undo_model.proofs.TakenLaws.{put-each}
use Rattle.undo_model.proofs.laws.put_keeps_the_order.Goals as goal

pub returns : goal.returns
returns c = put-each
