use Rattle.scene_file.proofs.SameHeads.{joined-moved}
use Rattle.scene_file.proofs.laws.joined_head_is_of_the_set.Goals as goal

pub returns : goal.returns
returns c = joined-moved
