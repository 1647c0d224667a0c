-- What a run did to its input and its output. This project's own.
use Rattle.std.specs.Prelude.{◌≡◌, ◌⊎◌, ℕ, ◌+◌, ◌≤◌, List, Option, Some, None, Result, Ok, Err, length, take}
use Rattle.board_ends.specs.Counts.{Rose}
use Rattle.board_ends.specs.Ends.{SourceEnd, SinkEnd, Gave, Took, IsAtEnd}
use Rattle.commands.specs.Answers.{IsAnswer}
use Rattle.commands.specs.Faults.{Noted}
use Rattle.commands.specs.declared.status.Status.{Status}
use Rattle.commands.specs.declared.status.Status.TheVariants.{Done, Refused, WriteFault}
use Rattle.commands.specs.declared.status.Fault.{Fault}
use Rattle.commands.specs.declared.status.Fault.TheVariants as fault
use Rattle.commands.specs.declared.status.InputRefusal.{InputRefusal}
use Rattle.commands.specs.declared.words.ProgramCommand.{ProgramCommand}
use Rattle.commands.specs.declared.words.ProgramCommand.TheVariants.{Recover}

-- What is seen of an end before a run, and after it.
pub record Span (End : Type 0) : Type 0 where
  pub before : End
  pub after : End

abbrev pub span : {End : Type 0} → End → End → Span End
span before after = record { before = before; after = after }

-- how many bytes an input of texts has at most
abbrev pub limit : Option ℕ
limit = Some 67108864

-- how many bytes the input of a command has at most: a journal may have any number of them
abbrev pub limit_of : ProgramCommand → Option ℕ
limit_of (Recover form) = None
limit_of other = limit

-- So many bytes are within a limit, where there is one.
abbrev pub IsWithin : Option ℕ → ℕ → Type 0
IsWithin None count = Unit {0}
IsWithin (Some most) count = count ≤ most

-- The input gave some bytes, within the limit. Where there is none, this says nothing.
abbrev pub GaveWithin : Option ℕ → Span SourceEnd → Type 0
GaveWithin None input = Unit {0}
GaveWithin (Some most) input =
    (bytes : List ℕ) × (length bytes ≤ most) × Gave input.before input.after bytes

-- The input gave one byte more than the limit, where there is one.
abbrev pub GaveTooMuch : Option ℕ → Span SourceEnd → Type 0
GaveTooMuch None input = ⊥
GaveTooMuch (Some most) input =
    (bytes : List ℕ) × (length bytes ≡ most + 1) × Gave input.before input.after bytes

-- The input gave these bytes, within the limit, and is at its end.
pub record WasRead (most : Option ℕ) (input : Span SourceEnd) (bytes : List ℕ) : Type 0 where
  pub within : IsWithin most (length bytes)
  pub given : Gave input.before input.after bytes
  pub at_end : IsAtEnd input.after

-- The input has these bytes, within the limit, to give.
pub record HasLeft (most : Option ℕ) (before : SourceEnd) (bytes : List ℕ) : Type 0 where
  pub told : before.left ≡ Some bytes
  pub within : IsWithin most (length bytes)

-- The command answers the input, which was read to its end, with a text, of which so much was
-- written.
pub record WasAnswered (command : ProgramCommand) (input : Span SourceEnd) (output : Span SinkEnd)
    (part : List ℕ → List ℕ) : Type 0 where
  pub bytes : List ℕ
  pub read : WasRead (limit_of command) input bytes
  pub text : List ℕ
  pub answer : IsAnswer command bytes (Ok text)
  pub took : Took output.before output.after (part text)

-- All of the text was written.
abbrev pub WasDone : ProgramCommand → Span SourceEnd → Span SinkEnd → Type 0
WasDone command input output = WasAnswered command input output (λ text. text)

-- A first part of the text was written, and the output's count of faults rose.
abbrev pub WasDoneInPart : ProgramCommand → Span SourceEnd → Span SinkEnd → Type 0
WasDoneInPart command input output =
    ((n : ℕ) × WasAnswered command input output (take n))
    × Rose output.before.faults output.after.faults

-- what a command refuses bytes for
abbrev pub IsRefusalOf : ProgramCommand → List ℕ → InputRefusal → Type 0
IsRefusalOf command bytes found = IsAnswer command bytes (Err found)

-- The input gave one byte more than the limit; or it was read to its end, and the command answers
-- it with this refusal.
abbrev pub WasRefused : ProgramCommand → Fault → Span SourceEnd → Type 0
WasRefused command fault.TooLong input = GaveTooMuch (limit_of command) input
WasRefused command (fault.Refused found) input =
    (bytes : List ℕ) × WasRead (limit_of command) input bytes × IsRefusalOf command bytes found
WasRefused command other input = ⊥

-- How a run ends whose input has this answer: Done, and the text was written, or WriteFault, where
-- the output's count of faults rose; or Refused, and the notes tell the fault.
abbrev pub EndsWith : Result (List ℕ) InputRefusal → Status → Span SinkEnd → Span SinkEnd → Type 0
EndsWith (Ok text) status output notes =
    ((status ≡ Done) × Took output.before output.after text)
    ⊎ ((status ≡ WriteFault) × Rose output.before.faults output.after.faults)
EndsWith (Err found) status output notes =
    (status ≡ Refused) × Noted (fault.Refused found) notes.before notes.after
