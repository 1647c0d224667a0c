-- What faults there are, how a run with one ends, and the line that tells it. This project's own.
-- Only this crate's own bodies and proofs need it.
use Rattle.board_base.specs.declared.stop.Stop.{Stop}
use Rattle.board_base.specs.declared.stop.Stop.TheVariants as stop
use Rattle.session_text.specs.Faults as sessions
use Rattle.commands.specs.declared.status.Status.TheVariants as status
use Rattle.commands.specs.declared.status.Fault.{Fault}
use Rattle.commands.specs.declared.status.Fault.TheVariants as fault
use Rattle.commands.specs.declared.status.InputRefusal.{InputRefusal}
use Rattle.commands.specs.declared.status.InputRefusal.TheVariants as refusal

-- the fault of a run over bytes that are refused, or for which memory is wanted
abbrev pub stopped : Stop InputRefusal → Fault
stopped (stop.Fault found) = fault.Refused found
stopped stop.Memory = fault.Memory
