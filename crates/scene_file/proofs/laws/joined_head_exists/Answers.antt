use Rattle.scene_file.proofs.Existing.{joined-exists}
use Rattle.scene_file.proofs.laws.joined_head_exists.Goals as goal

pub returns : goal.returns
returns c = joined-exists
