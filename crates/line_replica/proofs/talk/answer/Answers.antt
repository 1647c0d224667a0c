use Rattle.std.proofs.Common.{Err, ap}
use Rattle.std.proofs.lemmas.Result.{IfOk-weaker}
use Rattle.line_replica.proofs.Talking.{line-told, refused-form, refused-text}
use Rattle.line_replica.proofs.talk.answer.Goals as goal

pub returns-in-Err-Fault-clause-told : goal.returns-in-Err-Fault-clause-told
returns-in-Err-Fault-clause-told c =
    let fault = c.in-Err-Fault.fault in
    IfOk-weaker c.faulty.result _ _
    (λ text told l stands. refused-form l c.args.line.now text fault c.args.life.now
    (c.in-Err-Fault.ensures.fault fault (ap Err c.in-Err-Fault.field-0-is)) told stands)
    c.faulty.ensures

pub returns-in-Ok-read_line-clause-told : goal.returns-in-Ok-read_line-clause-told
returns-in-Ok-read_line-clause-told c =
    IfOk-weaker c.answer.result _ _
    (λ text answered l stands. line-told l c.args.line.now c.in-Ok.value text c.in-Ok-read_line.line c.answer.new.self
    c.in-Ok.ensures.alone c.in-Ok-read_line.ensures.read (answered l stands))
    c.answer.ensures.answered

pub returns-in-Err-Fault-read_line-clause-told : goal.returns-in-Err-Fault-read_line-clause-told
returns-in-Err-Fault-read_line-clause-told c =
    let fault = c.in-Err-Fault-read_line.fault in
    IfOk-weaker c.faulty-in-Err-Fault-read_line.result _ _
    (λ text told l stands.
    refused-text l c.args.line.now c.in-Ok.value text fault c.args.life.now c.in-Ok.ensures.alone
    (c.in-Err-Fault-read_line.ensures.fault fault (ap Err c.in-Err-Fault-read_line.field-0-is)) told stands)
    c.faulty-in-Err-Fault-read_line.ensures
