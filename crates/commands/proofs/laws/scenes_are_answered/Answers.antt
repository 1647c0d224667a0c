use Rattle.commands.proofs.Existing.{scene-answered, scenes-answered}
use Rattle.commands.proofs.laws.scenes_are_answered.Goals as goal

pub returns-clause-scenes : goal.returns-clause-scenes
returns-clause-scenes c = scenes-answered

pub returns-clause-scene : goal.returns-clause-scene
returns-clause-scene c = scene-answered
