-- Which answers are left where no end fails, and what a fault comes from.
use Rattle.std.proofs.Common.{◌≡◌, ◌⊎◌, inl, inr, ℕ, List, IsSome, Result, Ok, Err, refl, subst, ◌∙◌}
use Rattle.board_ends.specs.Counts.{Rose}
use Rattle.board_ends.specs.Ends.{SourceEnd, SinkEnd}
use Rattle.commands.specs.Answers.{IsAnswer}
use Rattle.commands.specs.inner.Causes.{HasCause}
use Rattle.commands.specs.Ends.{Span, span, limit_of, GaveTooMuch, GaveWithin, HasLeft, WasAnswered, WasDoneInPart, WasRead, WasRefused}
use Rattle.commands.specs.inner.Ends.{IsInputFault}
use Rattle.commands.specs.Faults.{status_of}
use Rattle.commands.specs.declared.status.Status.TheVariants as status
use Rattle.commands.specs.declared.status.Fault.{Fault}
use Rattle.commands.specs.declared.status.Fault.TheVariants as fault
use Rattle.commands.specs.declared.status.InputRefusal.{InputRefusal}
use Rattle.commands.specs.declared.words.ProgramCommand.{ProgramCommand}
use Rattle.commands.proofs.Given.{left-excludes, read-excludes, read-whole, within-excludes}
use Rattle.commands.proofs.Unique.{answer-once}

-- ---- over an input that is told, and answered so
module _ (command : ProgramCommand) (bytes : List ℕ) (answer : Result (List ℕ) InputRefusal) (before after : SourceEnd)
    (left : HasLeft (limit_of command) before bytes) (answered : IsAnswer command bytes answer) where
  -- what it was answered with is that answer
  same-answer : (given : List ℕ) (also : Result (List ℕ) InputRefusal)
      → WasRead (limit_of command) (span before after) given
      → IsAnswer command given also → also ≡ answer
  same-answer given also read its =
      answer-once command bytes also answer
      (subst (λ b. IsAnswer command b also) (read-whole (limit_of command) bytes given before after left read) its)
      answered

  pub done-answer : (out out_after : SinkEnd) (part : List ℕ → List ℕ)
      → (w : WasAnswered command (span before after) (span out out_after) part) → Ok w.text ≡ answer
  done-answer out out_after part w = same-answer w.bytes (Ok w.text) w.read w.answer

  -- the end of a run with a fault, over an input that is answered with a text
  pub text-ends : (text : List ℕ) (f : Fault) (out out_after : SinkEnd) → answer ≡ Ok text
      → HasCause f command (span before after) (span out out_after)
      → (Rose before.faults after.faults → ⊥) → (status_of f ≡ status.Memory)
      ⊎ ((status_of f ≡ status.WriteFault) × Rose out.faults out_after.faults)
  text-ends text fault.Memory out out_after one cause reads = inl refl
  text-ends text fault.Usage out out_after one cause reads = absurd cause
  text-ends text fault.Read out out_after one cause reads = absurd (reads cause.0)
  text-ends text fault.TooLong out out_after one cause reads =
      absurd (left-excludes (limit_of command) bytes before after left cause)
  text-ends text (fault.Refused found) out out_after one cause reads =
      let same = same-answer cause.0 (Err found) cause.1 cause.2 ∙ one in cc
  text-ends text fault.Write out out_after one cause reads = inr (refl, cause.1)

  -- the end of a run with a fault, over an input that is answered with a fault: that one
  pub fault-ends : (why : InputRefusal) (f : Fault) (out out_after : SinkEnd) → answer ≡ Err why
      → HasCause f command (span before after) (span out out_after)
      → (Rose before.faults after.faults → ⊥) → (status_of f ≡ status.Memory)
      ⊎ ((status_of f ≡ status.Refused) × (f ≡ fault.Refused why))
  fault-ends why fault.Memory out out_after one cause reads = inl refl
  fault-ends why fault.Usage out out_after one cause reads = absurd cause
  fault-ends why fault.Read out out_after one cause reads = absurd (reads cause.0)
  fault-ends why fault.TooLong out out_after one cause reads =
      absurd (left-excludes (limit_of command) bytes before after left cause)
  fault-ends why (fault.Refused found) out out_after one cause reads =
      let both = same-answer cause.0 (Err found) cause.1 cause.2 ∙ one in
      inr (refl, cc)
  fault-ends why fault.Write out out_after one cause reads =
      let both = done-answer out out_after _ cause.0.1 ∙ one in cc

-- ---- what a run with a fault comes from, by its status
module _ (command : ProgramCommand) (f : Fault) (input : Span SourceEnd) (output : Span SinkEnd)
    (cause : HasCause f command input output) where
  -- a fault of reading is the cause of a run's where nothing was written
  pub refused-cause : status_of f ≡ status.Refused → WasRefused command f input
  refused-cause is = by f is cause
    where
      by : (f : Fault) → status_of f ≡ status.Refused → HasCause f command input output → WasRefused command f input
      by fault.Memory is cause = cc
      by fault.Usage is cause = cc
      by fault.Read is cause = cc
      by fault.TooLong is cause = cause
      by (fault.Refused found) is cause = cause
      by fault.Write is cause = cc

  pub read-cause : status_of f ≡ status.ReadFault → Rose input.before.faults input.after.faults
      × GaveWithin (limit_of command) input
  read-cause is = by f is cause
    where
      by : (f : Fault) → status_of f ≡ status.ReadFault → HasCause f command input output
          → Rose input.before.faults input.after.faults × GaveWithin (limit_of command) input
      by fault.Memory is cause = cc
      by fault.Usage is cause = cc
      by fault.Read is cause = cause
      by fault.TooLong is cause = cc
      by (fault.Refused found) is cause = cc
      by fault.Write is cause = cc

  pub write-cause : status_of f ≡ status.WriteFault → WasDoneInPart command input output
  write-cause is = by f is cause
    where
      by : (f : Fault) → status_of f ≡ status.WriteFault → HasCause f command input output
          → WasDoneInPart command input output
      by fault.Memory is cause = cc
      by fault.Usage is cause = cc
      by fault.Read is cause = cc
      by fault.TooLong is cause = cc
      by (fault.Refused found) is cause = cc
      by fault.Write is cause = cause

  pub used-cause : status_of f ≡ status.Usage → ⊥
  used-cause is = by f is cause
    where
      by : (f : Fault) → status_of f ≡ status.Usage → HasCause f command input output → ⊥
      by fault.Memory is cause = cc
      by fault.Usage is cause = cause
      by fault.Read is cause = cc
      by fault.TooLong is cause = cc
      by (fault.Refused found) is cause = cc
      by fault.Write is cause = cc

  -- of an input that is too long: that fault, or want of memory
  pub long-cause : IsSome input.before.left → GaveTooMuch (limit_of command) input → (f ≡ fault.Memory)
      ⊎ (f ≡ fault.TooLong)
  long-cause told long = by f cause
    where
      by : (f : Fault) → HasCause f command input output → (f ≡ fault.Memory) ⊎ (f ≡ fault.TooLong)
      by fault.Memory cause = inl refl
      by fault.Usage cause = absurd cause
      by fault.Read cause = absurd (within-excludes (limit_of command) input.before input.after told long cause.1)
      by fault.TooLong cause = inr refl
      by (fault.Refused found) cause =
          absurd (read-excludes (limit_of command) cause.0 input.before input.after told long cause.1)
      by fault.Write cause =
          absurd (read-excludes (limit_of command) cause.0.1.bytes input.before input.after told long cause.0.1.read)

-- a fault of reading an input is a fault of a run over it
pub input-cause : (command : ProgramCommand) (f : Fault) (input : Span SourceEnd) (output : Span SinkEnd)
    → IsInputFault (limit_of command) (λ bytes found. IsAnswer command bytes (Err found)) input f
    → HasCause f command input output
input-cause command fault.Memory input output is = is
input-cause command fault.Usage input output is = absurd is
input-cause command fault.Read input output is = is
input-cause command fault.TooLong input output is = is
input-cause command (fault.Refused found) input output is = is
input-cause command fault.Write input output is = absurd is
