use Rattle.scene_file.proofs.Once.{scene-once, scene-some}
use Rattle.scene_file.proofs.laws.scene_is_unique.Goals as goal

pub returns-clause-once : goal.returns-clause-once
returns-clause-once c = λ bytes scene other rest next one two. scene-once one two

pub returns-clause-none : goal.returns-clause-none
returns-clause-none c = λ bytes scene rest is blank. scene-some is blank
