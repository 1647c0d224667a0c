use Rattle.std.proofs.Common.{inr}
use Rattle.std.proofs.lemmas.Result.{IfOk-weaker}
use Rattle.commands.proofs.pasting.pasted.Goals as goal

pub returns-clause-pasted : goal.returns-clause-pasted
returns-clause-pasted c =
    IfOk-weaker c.pasted_into.result _ _
    (λ text is. record {
      scene = c.in_ok-scene.scene;
      clip = c.in_ok-scene.clip;
      holds = c.in_ok-scene.ensures.found;
      is = is;
    }) c.pasted_into.ensures.pasted

pub returns-clause-refused : goal.returns-clause-refused
returns-clause-refused c why e =
    let exists = c.pasted_into.ensures.refused why e in
    inr (
      exists.0,
      exists.1,
      record {
        scene = c.in_ok-scene.scene;
        clip = c.in_ok-scene.clip;
        holds =
            c.in_ok-scene.ensures.found;
        is = exists.2;
      },
    )
