-- How a run that serves a durable room ends, by the end of the room or by its fault, and what that is over an input
-- that tells its bytes.
use Rattle.std.proofs.Common.{◌≡◌, ◌≢◌, ◌⊎◌, inl, inr, ℕ, List, IsSome, refl, sym, subst}
use Rattle.board_ends.specs.Counts.{Rose}
use Rattle.board_ends.specs.Ends.{SinkEnd}
use Rattle.room_disk.specs.declared.keep_end.KeepEnd.{KeepEnd}
use Rattle.room_disk.specs.declared.keep_end.KeepEnd.TheVariants.{AllClosed, Idle, LinkFault, LinksFull, EventsFull, JournalFault, Memory}
use Rattle.commands.specs.Ends.{Span, GaveTooMuch, HasLeft, WasRead}
use Rattle.commands.specs.inner.Ends.{IsInputFault}
use Rattle.commands.specs.Faults.{status_of, IsNoted, Noted}
use Rattle.commands.specs.Keeping.{BeginsWith, EndsKeeping, IsBeginsRefusal, IsUntouched, KeepsInput, WasBeginsRefused, WasKeptTo, kept_line, kept_status, limit_from}
use Rattle.commands.specs.Serving.{Ends}
use Rattle.commands.specs.declared.status.Fault.{Fault}
use Rattle.commands.specs.declared.status.Fault.TheVariants as fault
use Rattle.commands.specs.declared.status.Status.{Status}
use Rattle.commands.specs.declared.status.Status.TheVariants as status
use Rattle.commands.specs.declared.words.Keeping.{Keeping}
use Rattle.commands.proofs.Given.{left-excludes, read-excludes, read-whole, within-excludes}

module _ (keeping : Keeping) (ends : Ends) (notes : Span SinkEnd) where
  pub ends-kept : (end : KeepEnd) → WasKeptTo keeping end ends
      → (end ≢ AllClosed → end ≢ Idle → IsNoted (kept_line end) notes.before notes.after)
      → EndsKeeping keeping ends notes (kept_status end)
  ends-kept AllClosed was noted = was
  ends-kept Idle was noted = was
  ends-kept LinkFault was noted = (was, noted (λ e. cc) (λ e. cc))
  ends-kept LinksFull was noted = inr (LinksFull, refl, was, noted (λ e. cc) (λ e. cc))
  ends-kept EventsFull was noted = inr (EventsFull, refl, was, noted (λ e. cc) (λ e. cc))
  ends-kept JournalFault was noted = (was, noted (λ e. cc) (λ e. cc))
  ends-kept Memory was noted = (inr was, noted (λ e. cc) (λ e. cc))

  pub ends-unkept : (found : Fault) → IsInputFault (limit_from keeping.begins) (IsBeginsRefusal keeping.begins)
      ends.input found → IsUntouched ends
      → Noted found notes.before notes.after → EndsKeeping keeping ends notes (status_of found)
  ends-unkept fault.Memory cause same noted = (inl same, noted)
  ends-unkept fault.Usage cause same noted = absurd cause
  ends-unkept fault.Read cause same noted = (cause.0, cause.1, same, noted)
  ends-unkept fault.TooLong cause same noted = inl (fault.TooLong, refl, cause, same, noted)
  ends-unkept (fault.Refused found) cause same noted = inl (fault.Refused found, refl, cause, same, noted)
  ends-unkept fault.Write cause same noted = absurd cause

  -- ---- over an input with these bytes
  module _ (bytes : List ℕ) (left : HasLeft (limit_from keeping.begins) ends.input.before bytes) where
    abbrev IsKeptSo : Status → Type 0
    IsKeptSo result = (result ≡ status.Memory) ⊎ KeepsInput keeping bytes ends notes result

    kept-so : (end : KeepEnd) (result : Status) → WasKeptTo keeping end ends → result ≡ kept_status end
        → IsKeptSo result
    kept-so end result was is =
        let begins = subst (λ b. BeginsWith keeping.begins b was.begun)
        (read-whole (limit_from keeping.begins) bytes was.bytes ends.input.before ends.input.after left was.read)
        was.begins in
        inr (inl (was.begun, begins, (end, was, is)))

    refused-so : (found : Fault) → WasBeginsRefused keeping.begins found ends.input
        → Noted found notes.before notes.after → IsKeptSo status.Refused
    refused-so fault.TooLong refused noted =
        absurd (left-excludes (limit_from keeping.begins) bytes ends.input.before ends.input.after left refused)
    refused-so (fault.Refused found) (given, read, refused) noted =
        inr (inr (
          found,
          subst (λ b. IsBeginsRefusal keeping.begins b found)
              (read-whole (limit_from keeping.begins) bytes given ends.input.before ends.input.after left read) refused,
          refl,
          noted,
        ))
    refused-so fault.Memory refused noted = absurd refused
    refused-so fault.Usage refused noted = absurd refused
    refused-so fault.Read refused noted = absurd refused
    refused-so fault.Write refused noted = absurd refused

    pub keeps-input : (result : Status) → (Rose ends.input.before.faults ends.input.after.faults → ⊥)
        → EndsKeeping keeping ends notes result → IsKeptSo result
    keeps-input status.Done reads was = kept-so AllClosed status.Done was refl
    keeps-input status.Idle reads was = kept-so Idle status.Idle was refl
    keeps-input status.LinkFault reads was = kept-so LinkFault status.LinkFault was.0 refl
    keeps-input status.Refused reads (inl (found, is, refused, same, noted)) = refused-so found refused noted
    keeps-input status.Refused reads (inr (end, is, was, noted)) = kept-so end status.Refused was (sym is)
    keeps-input status.ReadFault reads was = absurd (reads was.0)
    keeps-input status.WriteFault reads was = kept-so JournalFault status.WriteFault was.0 refl
    keeps-input status.Memory reads was = inl refl
    keeps-input status.Usage reads was = absurd was

  -- ---- over an input that is too long
  module _ (told : IsSome ends.input.before.left) (long : GaveTooMuch (limit_from keeping.begins) ends.input) where
    unread : (bytes : List ℕ) → WasRead (limit_from keeping.begins) ends.input bytes → ⊥
    unread bytes read =
        read-excludes (limit_from keeping.begins) bytes ends.input.before ends.input.after told long read

    abbrev IsRefused : Status → Type 0
    IsRefused result =
        (result ≡ status.Memory) ⊎ ((result ≡ status.Refused) × Noted fault.TooLong notes.before notes.after)

    refused-long : (found : Fault) → WasBeginsRefused keeping.begins found ends.input
        → Noted found notes.before notes.after → IsRefused status.Refused
    refused-long fault.TooLong refused noted = inr (refl, noted)
    refused-long (fault.Refused found) refused noted = absurd (unread refused.0 refused.1)
    refused-long fault.Memory refused noted = absurd refused
    refused-long fault.Usage refused noted = absurd refused
    refused-long fault.Read refused noted = absurd refused
    refused-long fault.Write refused noted = absurd refused

    pub keeps-too_long : (result : Status) → EndsKeeping keeping ends notes result → IsRefused result
    keeps-too_long status.Done was = absurd (unread was.bytes was.read)
    keeps-too_long status.Idle was = absurd (unread was.bytes was.read)
    keeps-too_long status.LinkFault was = absurd (unread was.0.bytes was.0.read)
    keeps-too_long status.Refused (inl (found, is, refused, same, noted)) = refused-long found refused noted
    keeps-too_long status.Refused (inr (end, is, was, noted)) = absurd (unread was.bytes was.read)
    keeps-too_long status.ReadFault was =
        absurd (within-excludes (limit_from keeping.begins) ends.input.before ends.input.after told long was.1)
    keeps-too_long status.WriteFault was = absurd (unread was.0.bytes was.0.read)
    keeps-too_long status.Memory was = inl refl
    keeps-too_long status.Usage was = absurd was
