-- What a fault of a run comes from. Only contracts of private functions cite this.
use Rattle.board_ends.specs.Ends.{SourceEnd, SinkEnd}
use Rattle.commands.specs.Ends.{Span, IsRefusalOf, WasDoneInPart, limit_of}
use Rattle.commands.specs.inner.Ends.{IsInputFault}
use Rattle.commands.specs.declared.status.Fault.{Fault}
use Rattle.commands.specs.declared.status.Fault.TheVariants as fault
use Rattle.commands.specs.declared.words.ProgramCommand.{ProgramCommand}

-- A failure to write comes where the output's count of faults rose; every other fault is one of
-- reading the input.
abbrev pub HasCause : Fault → ProgramCommand → Span SourceEnd → Span SinkEnd → Type 0
HasCause fault.Write command input output = WasDoneInPart command input output
HasCause found command input output =
    IsInputFault (limit_of command) (IsRefusalOf command) input found
