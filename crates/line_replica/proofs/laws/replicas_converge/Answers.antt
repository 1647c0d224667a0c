use Rattle.std.proofs.Common.{ap}
use Rattle.scene_file.specs.Scenes.{scene_text}
use Rattle.line_replica.proofs.Stores.{show-same, store-same}
use Rattle.line_replica.proofs.laws.replicas_converge.Goals as goal

pub returns-clause-stored : goal.returns-clause-stored
returns-clause-stored c = λ lines texts others answers l other one two are same. store-same lines texts others answers l
    other one two are same

pub returns-clause-shown : goal.returns-clause-shown
returns-clause-shown c = λ lines texts others answers l other head one two are same. ap (scene_text head)
    (show-same lines texts others answers l other one two are same)
