use Rattle.std.proofs.Common.{Err, ap, sym}
use Rattle.commands.proofs.Judging.{same-why}
use Rattle.commands.proofs.CheckedInputs.{empty-refusal}
use Rattle.commands.proofs.checking.checked_text.Goals as goal

pub returns-in-Err-Fault-clause-refused : goal.returns-in-Err-Fault-clause-refused
returns-in-Err-Fault-clause-refused c why e =
    empty-refusal c.args.bytes.now c.in-Err-Fault.fault why
    (c.in-Err-Fault.ensures.none c.in-Err-Fault.fault (ap Err c.in-Err-Fault.field-0-is)) (sym (same-why _ _ why e))
