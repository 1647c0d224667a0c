-- How a run that serves a room ends, by the end of the room or by its fault, and what that is over an input that tells
-- its bytes.
use Rattle.std.proofs.Common.{◌≡◌, ◌≢◌, ◌⊎◌, inl, inr, ℕ, List, IsSome, refl, sym, subst}
use Rattle.board_ends.specs.Counts.{Rose}
use Rattle.board_ends.specs.Ends.{SinkEnd}
use Rattle.room_core.specs.declared.limits.ServeEnd.{ServeEnd}
use Rattle.room_core.specs.declared.limits.ServeEnd.TheVariants.{AllClosed, Idle, LinkFault, LinksFull, EventsFull, Memory}
use Rattle.scene_file.specs.declared.scene.Scene.{Scene}
use Rattle.commands.specs.Answers.{IsRefusal}
use Rattle.commands.specs.Ends.{Span, GaveTooMuch, HasLeft, WasRead, limit}
use Rattle.commands.specs.Faults.{status_of, IsNoted, Noted}
use Rattle.commands.specs.Input.{HasScenes}
use Rattle.commands.specs.Serving.{Ends, WasServed, WasServedTo, WasInputRefused, EndsServing, ServesInput, end_line, end_status}
use Rattle.commands.specs.inner.Serving.{HasServingCause}
use Rattle.commands.specs.declared.status.Fault.{Fault}
use Rattle.commands.specs.declared.status.Fault.TheVariants as fault
use Rattle.commands.specs.declared.status.Status.{Status}
use Rattle.commands.specs.declared.status.Status.TheVariants as status
use Rattle.commands.specs.declared.words.Service.{Service}
use Rattle.commands.proofs.Given.{left-excludes, read-excludes, read-whole, within-excludes}

module _ (service : Service) (ends : Ends) (notes : Span SinkEnd) where
  pub ends-served : (end : ServeEnd) → WasServedTo service end ends
      → (end ≢ AllClosed → end ≢ Idle → IsNoted (end_line end) notes.before notes.after)
      → EndsServing service ends notes (end_status end)
  ends-served AllClosed served noted = served
  ends-served Idle served noted = served
  ends-served LinkFault served noted = (served, served.rose refl, noted (λ e. cc) (λ e. cc))
  ends-served LinksFull served noted = inr (LinksFull, refl, served, noted (λ e. cc) (λ e. cc))
  ends-served EventsFull served noted = inr (EventsFull, refl, served, noted (λ e. cc) (λ e. cc))
  ends-served Memory served noted = absurd (served.whole refl)

  pub ends-faulty : (found : Fault) → HasServingCause found service ends → Noted found notes.before notes.after
      → EndsServing service ends notes (status_of found)
  ends-faulty fault.Memory cause noted = noted
  ends-faulty fault.Usage cause noted = absurd cause
  ends-faulty fault.Read cause noted = (cause.0, cause.1, noted)
  ends-faulty fault.TooLong cause noted = inl (fault.TooLong, refl, cause, noted)
  ends-faulty (fault.Refused found) cause noted = inl (fault.Refused found, refl, cause, noted)
  ends-faulty fault.Write cause noted = (cause, noted)

  -- ---- over an input with these bytes
  module _ (bytes : List ℕ) (left : HasLeft limit ends.input.before bytes) where
    abbrev IsServed : Status → Type 0
    IsServed result = (result ≡ status.Memory) ⊎ ServesInput service bytes ends notes result

    was-read : (end : ServeEnd) (part : List ℕ → List ℕ) → WasServed service end ends part → (scenes : List Scene)
        × HasScenes bytes scenes
    was-read end part was = (
      was.scenes,
      subst (λ b. HasScenes b was.scenes)
          (read-whole limit bytes was.bytes ends.input.before ends.input.after left was.read) was.has_scenes,
    )

    refused-so : (found : Fault) → WasInputRefused found ends.input → Noted found notes.before notes.after
        → IsServed status.Refused
    refused-so fault.TooLong refused noted =
        absurd (left-excludes limit bytes ends.input.before ends.input.after left refused)
    refused-so (fault.Refused found) (given, read, refused) noted =
        inr
        (inr (
          found,
          subst (λ b. IsRefusal b found) (read-whole limit bytes given ends.input.before ends.input.after
              left read) refused,
          refl,
          noted,
        ))
    refused-so fault.Memory refused noted = absurd refused
    refused-so fault.Usage refused noted = absurd refused
    refused-so fault.Read refused noted = absurd refused
    refused-so fault.Write refused noted = absurd refused

    served-so : (end : ServeEnd) (result : Status) → WasServedTo service end ends → result ≡ end_status end
        → IsServed result
    served-so end result was is =
        let read = was-read end _ was in
        inr (inl (read.0, read.1, inl (end, was, is)))

    pub serves-input : (result : Status) → (Rose ends.input.before.faults ends.input.after.faults → ⊥)
        → EndsServing service ends notes result → IsServed result
    serves-input status.Done reads was = served-so AllClosed status.Done was refl
    serves-input status.Idle reads was = served-so Idle status.Idle was refl
    serves-input status.LinkFault reads was = served-so LinkFault status.LinkFault was.0 refl
    serves-input status.Refused reads (inl (found, is, refused, noted)) = refused-so found refused noted
    serves-input status.Refused reads (inr (end, is, was, noted)) = served-so end status.Refused was (sym is)
    serves-input status.ReadFault reads was = absurd (reads was.0)
    serves-input status.WriteFault reads (((end, n, was), rose), noted) =
        let read = was-read end _ was in inr (inl (read.0, read.1, inr (refl, rose)))
    serves-input status.Memory reads was = inl refl
    serves-input status.Usage reads was = absurd was

  -- ---- over an input that is too long
  module _ (told : IsSome ends.input.before.left) (long : GaveTooMuch limit ends.input) where
    unread : (bytes : List ℕ) → WasRead limit ends.input bytes → ⊥
    unread bytes read = read-excludes limit bytes ends.input.before ends.input.after told long read

    abbrev IsRefused : Status → Type 0
    IsRefused result =
        (result ≡ status.Memory) ⊎ ((result ≡ status.Refused) × Noted fault.TooLong notes.before notes.after)

    refused-long : (found : Fault) → WasInputRefused found ends.input → Noted found notes.before notes.after
        → IsRefused status.Refused
    refused-long fault.TooLong refused noted = inr (refl, noted)
    refused-long (fault.Refused found) refused noted = absurd (unread refused.0 refused.1)
    refused-long fault.Memory refused noted = absurd refused
    refused-long fault.Usage refused noted = absurd refused
    refused-long fault.Read refused noted = absurd refused
    refused-long fault.Write refused noted = absurd refused

    pub serves-too_long : (result : Status) → EndsServing service ends notes result → IsRefused result
    serves-too_long status.Done was = absurd (unread was.bytes was.read)
    serves-too_long status.Idle was = absurd (unread was.bytes was.read)
    serves-too_long status.LinkFault was = absurd (unread was.0.bytes was.0.read)
    serves-too_long status.Refused (inl (found, is, refused, noted)) = refused-long found refused noted
    serves-too_long status.Refused (inr (end, is, was, noted)) = absurd (unread was.bytes was.read)
    serves-too_long status.ReadFault was =
        absurd (within-excludes limit ends.input.before ends.input.after told long was.1)
    serves-too_long status.WriteFault (((end, n, was), rose), noted) = absurd (unread was.bytes was.read)
    serves-too_long status.Memory was = inl refl
    serves-too_long status.Usage was = absurd was
