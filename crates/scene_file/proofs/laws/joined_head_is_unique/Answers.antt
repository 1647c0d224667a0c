use Rattle.scene_file.proofs.Once.{head-once}
use Rattle.scene_file.proofs.laws.joined_head_is_unique.Goals as goal

pub returns : goal.returns
returns c = λ heads head other one two. head-once one two
