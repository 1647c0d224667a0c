use Rattle.std.proofs.Common.{Err, ap, sym}
use Rattle.commands.proofs.Judging.{same-why}
use Rattle.commands.proofs.front.value_behind.Goals as goal

pub returns-in-Err-Fault-clause-refused : goal.returns-in-Err-Fault-clause-refused
returns-in-Err-Fault-clause-refused c why e = (
  c.in-Err-Fault.fault,
  sym (same-why _ _ why e),
  c.in-Err-Fault.ensures.fault c.in-Err-Fault.fault (ap Err c.in-Err-Fault.field-0-is),
)
