use Rattle.std.proofs.Common.{◌≡◌, Some, Err, refl, ap, ◌∙◌, subst}
use Rattle.std.proofs.lemmas.Result.{IfOk-weaker}
use Rattle.view.specs.Shown.{live_elements, shown}
use Rattle.effects.specs.Changed.{OnFault, outcome}
use Rattle.line_replica.specs.Living.{refusal_text}
use Rattle.line_replica.proofs.ActingLaws.{change-made, change-refused}
use Rattle.line_replica.proofs.acting.change.Goals as goal

pub returns-in_ok-store_given-in-Ok-clause-acted : goal.returns-in_ok-store_given-in-Ok-clause-acted
returns-in_ok-store_given-in-Ok-clause-acted c = λ s stands.
    change-made c.args.command.now c.args.capture c.args.stamp.time c.args.stamp.nonce c.args.replica.now s stands
    c.in-Ok.given
    c.in_ok-text-in-Ok.text c.store_given.new.self c.in-Ok.ensures.given c.in_ok-text-in-Ok.ensures
    (c.in_ok-store_given-in-Ok.ensures.after s stands)

pub returns-in-Err-Fault-clause-acted : goal.returns-in-Err-Fault-clause-acted
returns-in-Err-Fault-clause-acted c =
    let old = c.args.replica.now in
    let is =
    subst (λ stop. OnFault stop (λ refusal. outcome old.stored (shown (live_elements old.stored)) c.args.command.now
    c.args.stamp.time c.args.stamp.nonce ≡ Err refusal)) c.in-Err-Fault.field-0-is c.in-Err-Fault.ensures.refused in
    IfOk-weaker c.refusal_text.result _ _
    (λ text told s stands.
    change-refused c.args.command.now c.args.capture c.args.stamp.time c.args.stamp.nonce old s stands
    c.in-Err-Fault.refusal text
    old is (told ∙ ap (λ r. refusal_text (Some r)) c.in-Err-Fault.refusal-is) refl)
    c.refusal_text.ensures
