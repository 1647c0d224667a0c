use Rattle.std.proofs.Common.{Ok, Err, ap, subst}
use Rattle.std.proofs.lemmas.Result.{IfOk-weaker}
use Rattle.room_msg.specs.Messages.{IsReadAs}
use Rattle.line_replica.specs.Living.{of_taking}
use Rattle.line_replica.specs.Standing.{IsGiven}
use Rattle.line_replica.proofs.LivingLaws.{received}
use Rattle.line_replica.proofs.life.Life.receive.Goals as goal

pub returns-in-Ok-clause-answered : goal.returns-in-Ok-clause-answered
returns-in-Ok-clause-answered c =
    let reads = subst (λ bytes. IsReadAs bytes (Ok c.in-Ok.message)) c.as_bytes.ensures.value c.in-Ok.ensures.message in
    IfOk-weaker c.take.result _ _ (λ answer given l stands. received l c.args.text.now (Ok c.in-Ok.message) answer
    c.take.new.self reads (subst (λ es. IsGiven (of_taking es l) answer c.take.new.self) c.brought_by.ensures
    (given l stands)))
    c.take.ensures.given

pub returns-in-Err-Fault-clause-answered : goal.returns-in-Err-Fault-clause-answered
returns-in-Err-Fault-clause-answered c =
    let fault = c.in-Err-Fault.fault in
    let reads = subst (λ bytes. IsReadAs bytes (Err fault)) c.as_bytes.ensures.value
    (c.in-Err-Fault.ensures.fault fault (ap Err c.in-Err-Fault.field-0-is)) in
    IfOk-weaker c.message_faulty.result _ _ (λ answer told l stands. received l c.args.text.now (Err fault) answer _
    reads (record { text = told; stands = stands })) c.message_faulty.ensures
