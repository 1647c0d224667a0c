use Rattle.std.proofs.Common.{ap}
use Rattle.view.specs.Shown.{live_elements, shown}
use Rattle.scene_file.specs.Scenes.{scene_text}
use Rattle.session.specs.Worlds.{head_of}
use Rattle.session.proofs.TakenLaws.{same-stored}
use Rattle.session.proofs.laws.replicas_converge.Goals as goal

pub returns-clause-stored : goal.returns-clause-stored
returns-clause-stored c = same-stored

pub returns-clause-shown : goal.returns-clause-shown
returns-clause-shown c = λ session count s other among also are same.
    ap (λ stored. scene_text (head_of session) (shown (live_elements stored)))
    (same-stored session count s other among also are same)
