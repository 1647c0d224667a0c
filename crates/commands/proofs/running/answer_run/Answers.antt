use Rattle.std.proofs.Common.{◌≡◌, ◌⊎◌, inl, inr, ℕ, List, Result, Ok, Err, refl, sym, ap, subst, ◌∙◌}
use Rattle.board_ends.specs.Counts.{Rose}
use Rattle.board_ends.specs.Ends.{SourceEnd, SinkEnd}
use Rattle.commands.specs.Answers.{IsAnswer}
use Rattle.commands.specs.inner.Causes.{HasCause}
use Rattle.commands.specs.Ends.{span, limit_of, EndsWith, HasLeft, WasDone}
use Rattle.commands.specs.Faults.{status_of, Noted}
use Rattle.commands.specs.declared.status.Fault.{Fault}
use Rattle.commands.specs.declared.status.InputRefusal.{InputRefusal}
use Rattle.commands.specs.declared.status.Status.{Status}
use Rattle.commands.specs.declared.status.Status.TheVariants as status
use Rattle.commands.specs.declared.words.ProgramCommand.{ProgramCommand}
use Rattle.commands.specs.Words.{HasNames}
use Rattle.commands.proofs.Answering.{fault-ends, long-cause, read-cause, refused-cause, text-ends, used-cause, write-cause}
use Rattle.commands.proofs.Existing.{answer-exists}
use Rattle.commands.proofs.JournalExists.{AreAnswered, AreWhole}
use Rattle.commands.proofs.Given.{read-excludes, read-whole}
use Rattle.commands.proofs.running.answer_run.Goals as goal

-- the ends of runs over an input that tells its bytes
module _ (command : ProgramCommand) (bytes : List ℕ) (before after : SourceEnd)
    (out out_after notes notes_after : SinkEnd)
    (result : Status)
    (left : HasLeft (limit_of command) before bytes) where
  abbrev IsComplete : Type 0
  IsComplete = (result ≡ status.Memory) ⊎ ((answer : Result (List ℕ) InputRefusal) × IsAnswer command bytes answer
      × EndsWith answer result (span out out_after) (span notes notes_after))

  complete-done : result ≡ status.Done → WasDone command (span before after) (span out out_after) → IsComplete
  complete-done done w =
      inr (
        Ok w.text,
        subst (λ b. IsAnswer command b (Ok w.text))
            (read-whole (limit_of command) bytes w.bytes before after left w.read) w.answer,
        inl (done, w.took),
      )

  complete-fault : AreAnswered → AreWhole → HasNames command → (f : Fault)
      → HasCause f command (span before after) (span out out_after) → result ≡ status_of f → Noted f notes notes_after
      → (Rose before.faults after.faults → ⊥) → IsComplete
  complete-fault answers whole names f cause ended note reads = by (answer-exists answers whole command bytes names)
    where
      by : (answer : Result (List ℕ) InputRefusal) × IsAnswer command bytes answer → IsComplete
      by (Ok text, answered) =
          elim (text-ends command bytes (Ok text) before after left answered text f out out_after refl cause reads) [
            | inl memory ↦ inl (ended ∙ memory)
            | inr (failed, rose) ↦ inr (Ok text, answered, inr (ended ∙ failed, rose))
          ]
      by (Err why, answered) =
          elim (fault-ends command bytes (Err why) before after left answered why f out out_after refl cause reads) [
            | inl memory ↦ inl (ended ∙ memory)
            | inr (refused, same) ↦ inr (
              Err why,
              answered,
              (ended ∙ refused, subst (λ g. Noted g notes notes_after) same note),
            )
          ]

pub returns-in-Ok-clause-complete : goal.returns-in-Ok-clause-complete
returns-in-Ok-clause-complete g c bytes left reads =
    complete-done c.args.command bytes _ _ _ _ _ _ _ left refl c.in-Ok.ensures.done

pub returns-in-Ok-clause-too_long : goal.returns-in-Ok-clause-too_long
returns-in-Ok-clause-too_long g c told long =
    let done = c.in-Ok.ensures.done in
    absurd (read-excludes (limit_of c.args.command) done.bytes _ _ told long done.read)

pub returns-in-Err-clause-complete : goal.returns-in-Err-clause-complete
returns-in-Err-clause-complete g c bytes left reads =
    complete-fault c.args.command bytes _ _ _ _ _ _ _ left c.reading_exists.ensures
    (λ b found is. (c.recovered_is_whole.ensures.head b found is, c.recovered_is_whole.ensures.elements b found is))
    c.requires c.in-Err.fault c.in-Err.ensures.fault c.noted.ensures.status c.noted.ensures.noted reads

pub returns-in-Err-clause-refused : goal.returns-in-Err-clause-refused
returns-in-Err-clause-refused g c is = (
  c.in-Err.fault,
  refused-cause c.args.command c.in-Err.fault _ _ c.in-Err.ensures.fault (sym c.noted.ensures.status
      ∙ is),
  c.noted.ensures.noted,
)

pub returns-in-Err-clause-read_fault : goal.returns-in-Err-clause-read_fault
returns-in-Err-clause-read_fault g c is =
    read-cause c.args.command c.in-Err.fault _ _ c.in-Err.ensures.fault (sym c.noted.ensures.status ∙ is)

pub returns-in-Err-clause-write_fault : goal.returns-in-Err-clause-write_fault
returns-in-Err-clause-write_fault g c is =
    write-cause c.args.command c.in-Err.fault _ _ c.in-Err.ensures.fault (sym c.noted.ensures.status ∙ is)

pub returns-in-Err-clause-used : goal.returns-in-Err-clause-used
returns-in-Err-clause-used g c is =
    used-cause c.args.command c.in-Err.fault _ _ c.in-Err.ensures.fault (sym c.noted.ensures.status ∙ is)

pub returns-in-Err-clause-too_long : goal.returns-in-Err-clause-too_long
returns-in-Err-clause-too_long g c told long =
    elim (long-cause c.args.command c.in-Err.fault _ _ c.in-Err.ensures.fault told long) [
      | inl memory ↦ inl (c.noted.ensures.status ∙ ap status_of memory)
      | inr long ↦ inr (
        c.noted.ensures.status ∙ ap status_of long,
        subst (λ (f : Fault). Noted f (g.N.Sink.seen c.args.notes.now) (g.N.Sink.seen c.noted.new.notes)) long
            c.noted.ensures.noted,
      )
    ]
