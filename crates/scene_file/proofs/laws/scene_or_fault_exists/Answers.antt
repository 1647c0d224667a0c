use Rattle.scene_file.proofs.Existing.{scene-law}
use Rattle.scene_file.proofs.laws.scene_or_fault_exists.Goals as goal

pub returns : goal.returns
returns c = scene-law
