use Rattle.scene_file.proofs.WholeScenes.{scene-whole, joined-whole, stored-whole}
use Rattle.scene_file.proofs.laws.scenes_are_whole.Goals as goal

pub returns-clause-read : goal.returns-clause-read
returns-clause-read c = scene-whole

pub returns-clause-joined : goal.returns-clause-joined
returns-clause-joined c = joined-whole

pub returns-clause-stored : goal.returns-clause-stored
returns-clause-stored c = stored-whole
