use Rattle.std.proofs.Common.{Err, ap}
use Rattle.line_replica.proofs.Talking.{opened-told, unopened-form, unopened-text}
use Rattle.line_replica.proofs.talk.open.Goals as goal

pub returns-in-Err-Fault : goal.returns-in-Err-Fault
returns-in-Err-Fault c =
    let fault = c.in-Err-Fault.fault in
    unopened-form c.args.line.now c.in_ok-faulty-in-Err-Fault.field-0 fault
    (c.in-Err-Fault.ensures.fault fault (ap Err c.in-Err-Fault.field-0-is)) c.in_ok-faulty-in-Err-Fault.ensures

pub returns-in-Ok-read_opening : goal.returns-in-Ok-read_opening
returns-in-Ok-read_opening c =
    opened-told c.args.line.now c.in-Ok.value c.in_ok-text-in-Ok-read_opening.text c.in-Ok-read_opening.opening
    c.in_ok-open-in-Ok-read_opening.field-0 c.in-Ok.ensures.alone c.in-Ok-read_opening.ensures.read
    c.in_ok-text-in-Ok-read_opening.ensures c.in_ok-open-in-Ok-read_opening.ensures

pub returns-in-Err-Fault-read_opening : goal.returns-in-Err-Fault-read_opening
returns-in-Err-Fault-read_opening c =
    let fault = c.in-Err-Fault-read_opening.fault in
    unopened-text c.args.line.now c.in-Ok.value c.in_ok-faulty-in-Err-Fault-read_opening.field-0 fault
    c.in-Ok.ensures.alone
    (c.in-Err-Fault-read_opening.ensures.fault fault (ap Err c.in-Err-Fault-read_opening.field-0-is))
    c.in_ok-faulty-in-Err-Fault-read_opening.ensures
