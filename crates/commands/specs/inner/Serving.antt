-- What serving a room does, from the scenes that it begins with to the scene that is written at its
-- end. This project's own.
-- Only this crate's own bodies and proofs need it.
use Rattle.commands.specs.Answers.{IsRefusal}
use Rattle.commands.specs.Ends.{limit}
use Rattle.commands.specs.inner.Ends.{IsInputFault}
use Rattle.commands.specs.declared.status.Fault.{Fault}
use Rattle.commands.specs.declared.status.Fault.TheVariants as fault
use Rattle.commands.specs.declared.status.Status.TheVariants as status
use Rattle.commands.specs.declared.words.Service.{Service}
use Rattle.commands.specs.Serving.{Ends, ends, WasServedInPart}

-- What a run that serves a room and ends with a fault comes from: a failure to write where the
-- output's count of faults rose; every other fault is one of reading the input.
abbrev pub HasServingCause : Fault → Service → Ends → Type 0
HasServingCause fault.Write service ends = WasServedInPart service ends
HasServingCause found service ends = IsInputFault limit IsRefusal ends.input found
