use Rattle.scene_file.proofs.ReadBack.{scene-back, named-text, state-back}
use Rattle.scene_file.proofs.laws.texts_are_read_back.Goals as goal

pub returns-clause-scene : goal.returns-clause-scene
returns-clause-scene c = scene-back

pub returns-clause-same : goal.returns-clause-same
returns-clause-same c = named-text

pub returns-clause-state : goal.returns-clause-state
returns-clause-state c = state-back
