-- What a run did to its input and its output. This project's own.
-- Only this crate's own bodies and proofs need it.
use Rattle.std.specs.Prelude.{ℕ, List, Option}
use Rattle.board_ends.specs.Counts.{Rose}
use Rattle.board_ends.specs.Ends.{SourceEnd}
use Rattle.commands.specs.declared.status.Status.TheVariants.{Refused}
use Rattle.commands.specs.declared.status.Fault.{Fault}
use Rattle.commands.specs.declared.status.Fault.TheVariants as fault
use Rattle.commands.specs.declared.status.InputRefusal.{InputRefusal}
use Rattle.commands.specs.Ends.{Span, GaveWithin, GaveTooMuch, WasRead}

-- no bytes are refused
abbrev pub IsNeverRefused : List ℕ → InputRefusal → Type 0
IsNeverRefused bytes found = ⊥

-- What a fault of reading an input comes from, which is refused so: a failure to read where the
-- input's count of faults rose; more bytes than the limit; or bytes that were read to their end and
-- are to be refused.
abbrev pub IsInputFault : Option ℕ → (List ℕ → InputRefusal → Type 0) → Span SourceEnd → Fault
    → Type 0
IsInputFault most IsRefused input fault.Memory = Unit {0}
IsInputFault most IsRefused input fault.Usage = ⊥
IsInputFault most IsRefused input fault.Read =
    Rose input.before.faults input.after.faults × GaveWithin most input
IsInputFault most IsRefused input fault.TooLong = GaveTooMuch most input
IsInputFault most IsRefused input (fault.Refused found) =
    (bytes : List ℕ) × WasRead most input bytes × IsRefused bytes found
IsInputFault most IsRefused input fault.Write = ⊥
