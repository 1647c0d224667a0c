use Rattle.std.proofs.Common.{◌≡◌, ◌⊎◌, inl, ℕ, List, Result, Some, refl, sym, ap, subst, ◌∙◌}
use Rattle.commands.specs.Answers.{IsAnswer}
use Rattle.commands.specs.Closing.{IsServedToClose}
use Rattle.commands.specs.Ends.{span, limit_of, EndsWith, HasLeft, WasDone, WasRefused}
use Rattle.commands.specs.Drills.{EndsDrilling}
use Rattle.commands.specs.Faults.{Noted, status_of}
use Rattle.commands.specs.Keeping.{EndsKeeping}
use Rattle.commands.specs.KeptRooms.{IsKeptToClose}
use Rattle.commands.specs.Serving.{EndsServing, ends}
use Rattle.commands.specs.declared.status.Fault.{Fault}
use Rattle.commands.specs.declared.status.InputRefusal.{InputRefusal}
use Rattle.commands.specs.declared.status.Status.TheVariants.{Memory}
use Rattle.commands.specs.declared.words.ProgramCommand.{ProgramCommand}
use Rattle.commands.specs.declared.words.ProgramCommand.TheVariants.{Replay}
use Rattle.commands.specs.Words.{asked}
use Rattle.commands.specs.declared.words.Keeping.{Keeping}
use Rattle.commands.specs.declared.words.Request.TheVariants.{Drill, Keep, Serve}
use Rattle.commands.specs.declared.words.Service.{Service}
use Rattle.commands.proofs.Asking.{asked-drill, asked-keeping, asked-service, memory-wanted, same-answer, same-keeping, same-service, words-ask}
use Rattle.commands.proofs.Lawful.{replay-lawful}
use Rattle.commands.proofs.Kept.{keeps-input, keeps-too_long}
use Rattle.commands.proofs.Served.{serves-input, serves-too_long}
use Rattle.commands.proofs.running.board.Goals as goal

pub answer_run-requires : goal.answer_run-requires
answer_run-requires g c = ((words-ask c.in-Ok-Answer.command c.args.words.now).0 (c.in-Ok-Answer.ensures.asked
    ∙ ap Some c.in-Ok-Answer.field-0-is)).1

pub serve_run-requires : goal.serve_run-requires
serve_run-requires g c = asked-service c.args.words.now c.in-Ok-Serve.service (c.in-Ok-Serve.ensures.asked
    ∙ ap Some c.in-Ok-Serve.field-0-is)

pub keep_run-requires : goal.keep_run-requires
keep_run-requires g c =
    asked-keeping c.args.words.now c.in-Ok-Keep.keeping (c.in-Ok-Keep.ensures.asked ∙ ap Some c.in-Ok-Keep.field-0-is)

pub drill_run-requires : goal.drill_run-requires
drill_run-requires g c =
    asked-drill c.args.words.now c.in-Ok-Drill.drill (c.in-Ok-Drill.ensures.asked ∙ ap Some c.in-Ok-Drill.field-0-is)

pub returns-in-Ok-Answer-clause-complete : goal.returns-in-Ok-Answer-clause-complete
returns-in-Ok-Answer-clause-complete g c command bytes is left reads =
    let same = same-answer c.in-Ok-Answer.command command
    (sym (c.in-Ok-Answer.ensures.asked ∙ ap Some c.in-Ok-Answer.field-0-is) ∙ is) in
    subst (λ (own : ProgramCommand). (c.answer_run.result ≡ Memory)
    ⊎ ((answer : Result (List ℕ) InputRefusal) × IsAnswer own bytes answer
    × EndsWith answer c.answer_run.result
    (span (g.K.Sink.seen c.args.output.now) (g.K.Sink.seen c.answer_run.new.output))
    (span (g.N.Sink.seen c.args.notes.now) (g.N.Sink.seen c.answer_run.new.notes))))
    same (c.answer_run.ensures.complete bytes
    (subst (λ (own : ProgramCommand). HasLeft (limit_of own) (g.S.Source.seen c.args.input.now) bytes) (sym same) left)
    reads)

pub returns-in-Ok-Answer-clause-refused : goal.returns-in-Ok-Answer-clause-refused
returns-in-Ok-Answer-clause-refused g c command is refused =
    let same = same-answer c.in-Ok-Answer.command command
    (sym (c.in-Ok-Answer.ensures.asked ∙ ap Some c.in-Ok-Answer.field-0-is) ∙ is) in
    subst (λ (own : ProgramCommand). (fault : Fault)
    × WasRefused own fault (span (g.S.Source.seen c.args.input.now) (g.S.Source.seen c.answer_run.new.input))
    × Noted fault (g.N.Sink.seen c.args.notes.now) (g.N.Sink.seen c.answer_run.new.notes))
    same (c.answer_run.ensures.refused refused)

pub returns-in-Ok-Answer-clause-laws_of_a_replay : goal.returns-in-Ok-Answer-clause-laws_of_a_replay
returns-in-Ok-Answer-clause-laws_of_a_replay g c is done =
    let same = same-answer c.in-Ok-Answer.command Replay (sym (c.in-Ok-Answer.ensures.asked
    ∙ ap Some c.in-Ok-Answer.field-0-is) ∙ is) in
    replay-lawful c.replicas_hold.ensures.laws _ _ (subst (λ (own : ProgramCommand). WasDone own
    (span (g.S.Source.seen c.args.input.now) (g.S.Source.seen c.answer_run.new.input))
    (span (g.K.Sink.seen c.args.output.now) (g.K.Sink.seen c.answer_run.new.output)))
    same (c.answer_run.ensures.done done))

pub returns-in-Ok-Serve-clause-serve_complete : goal.returns-in-Ok-Serve-clause-serve_complete
returns-in-Ok-Serve-clause-serve_complete g c service is =
    let same = same-service c.in-Ok-Serve.service service
    (sym (c.in-Ok-Serve.ensures.asked ∙ ap Some c.in-Ok-Serve.field-0-is) ∙ is) in
    subst (λ (own : Service). IsServedToClose own
    (ends (span (g.S.Source.seen c.args.input.now) (g.S.Source.seen c.serve_run.new.input))
    (span (g.K.Sink.seen c.args.output.now) (g.K.Sink.seen c.serve_run.new.output))
    (span (g.L.Links.seen c.args.links.now) (g.L.Links.seen c.serve_run.new.links))) c.serve_run.result) same
    c.serve_run.ensures.complete

pub returns-in-Ok-Serve-clause-serve_input : goal.returns-in-Ok-Serve-clause-serve_input
returns-in-Ok-Serve-clause-serve_input g c service bytes is left reads =
    let same = same-service c.in-Ok-Serve.service service
    (sym (c.in-Ok-Serve.ensures.asked ∙ ap Some c.in-Ok-Serve.field-0-is) ∙ is) in
    serves-input service (ends (span (g.S.Source.seen c.args.input.now) (g.S.Source.seen c.serve_run.new.input))
    (span (g.K.Sink.seen c.args.output.now) (g.K.Sink.seen c.serve_run.new.output))
    (span (g.L.Links.seen c.args.links.now) (g.L.Links.seen c.serve_run.new.links)))
    (span (g.N.Sink.seen c.args.notes.now) (g.N.Sink.seen c.serve_run.new.notes)) bytes left c.serve_run.result reads
    (subst (λ (own : Service). EndsServing own
    (ends (span (g.S.Source.seen c.args.input.now) (g.S.Source.seen c.serve_run.new.input))
    (span (g.K.Sink.seen c.args.output.now) (g.K.Sink.seen c.serve_run.new.output))
    (span (g.L.Links.seen c.args.links.now) (g.L.Links.seen c.serve_run.new.links)))
    (span (g.N.Sink.seen c.args.notes.now) (g.N.Sink.seen c.serve_run.new.notes)) c.serve_run.result) same
    c.serve_run.ensures.served)

pub returns-in-Ok-Serve-clause-serve_too_long : goal.returns-in-Ok-Serve-clause-serve_too_long
returns-in-Ok-Serve-clause-serve_too_long g c service is told long =
    serves-too_long c.in-Ok-Serve.service
    (ends (span (g.S.Source.seen c.args.input.now) (g.S.Source.seen c.serve_run.new.input))
    (span (g.K.Sink.seen c.args.output.now) (g.K.Sink.seen c.serve_run.new.output))
    (span (g.L.Links.seen c.args.links.now) (g.L.Links.seen c.serve_run.new.links)))
    (span (g.N.Sink.seen c.args.notes.now) (g.N.Sink.seen c.serve_run.new.notes)) told long c.serve_run.result
    c.serve_run.ensures.served

pub returns-in-Ok-Keep-clause-keep_complete : goal.returns-in-Ok-Keep-clause-keep_complete
returns-in-Ok-Keep-clause-keep_complete g c keeping is =
    let same = same-keeping c.in-Ok-Keep.keeping keeping (sym (c.in-Ok-Keep.ensures.asked
    ∙ ap Some c.in-Ok-Keep.field-0-is) ∙ is) in
    subst (λ (own : Keeping). IsKeptToClose own
    (ends (span (g.S.Source.seen c.args.input.now) (g.S.Source.seen c.keep_run.new.input))
    (span (g.K.Sink.seen c.args.output.now) (g.K.Sink.seen c.keep_run.new.output))
    (span (g.L.Links.seen c.args.links.now) (g.L.Links.seen c.keep_run.new.links))) c.keep_run.result) same
    c.keep_run.ensures.complete

pub returns-in-Ok-Keep-clause-keep_input : goal.returns-in-Ok-Keep-clause-keep_input
returns-in-Ok-Keep-clause-keep_input g c keeping bytes is left reads =
    let same = same-keeping c.in-Ok-Keep.keeping keeping (sym (c.in-Ok-Keep.ensures.asked
    ∙ ap Some c.in-Ok-Keep.field-0-is) ∙ is) in
    keeps-input keeping (ends (span (g.S.Source.seen c.args.input.now) (g.S.Source.seen c.keep_run.new.input))
    (span (g.K.Sink.seen c.args.output.now) (g.K.Sink.seen c.keep_run.new.output))
    (span (g.L.Links.seen c.args.links.now) (g.L.Links.seen c.keep_run.new.links)))
    (span (g.N.Sink.seen c.args.notes.now) (g.N.Sink.seen c.keep_run.new.notes)) bytes left c.keep_run.result reads
    (subst (λ (own : Keeping). EndsKeeping own
    (ends (span (g.S.Source.seen c.args.input.now) (g.S.Source.seen c.keep_run.new.input))
    (span (g.K.Sink.seen c.args.output.now) (g.K.Sink.seen c.keep_run.new.output))
    (span (g.L.Links.seen c.args.links.now) (g.L.Links.seen c.keep_run.new.links)))
    (span (g.N.Sink.seen c.args.notes.now) (g.N.Sink.seen c.keep_run.new.notes)) c.keep_run.result) same
    c.keep_run.ensures.kept)

pub returns-in-Ok-Keep-clause-keep_too_long : goal.returns-in-Ok-Keep-clause-keep_too_long
returns-in-Ok-Keep-clause-keep_too_long g c keeping is told long =
    let same = same-keeping c.in-Ok-Keep.keeping keeping (sym (c.in-Ok-Keep.ensures.asked
    ∙ ap Some c.in-Ok-Keep.field-0-is) ∙ is) in
    keeps-too_long keeping (ends (span (g.S.Source.seen c.args.input.now) (g.S.Source.seen c.keep_run.new.input))
    (span (g.K.Sink.seen c.args.output.now) (g.K.Sink.seen c.keep_run.new.output))
    (span (g.L.Links.seen c.args.links.now) (g.L.Links.seen c.keep_run.new.links)))
    (span (g.N.Sink.seen c.args.notes.now) (g.N.Sink.seen c.keep_run.new.notes)) told long c.keep_run.result
    (subst (λ (own : Keeping). EndsKeeping own
    (ends (span (g.S.Source.seen c.args.input.now) (g.S.Source.seen c.keep_run.new.input))
    (span (g.K.Sink.seen c.args.output.now) (g.K.Sink.seen c.keep_run.new.output))
    (span (g.L.Links.seen c.args.links.now) (g.L.Links.seen c.keep_run.new.links)))
    (span (g.N.Sink.seen c.args.notes.now) (g.N.Sink.seen c.keep_run.new.notes)) c.keep_run.result) same
    c.keep_run.ensures.kept)

pub returns-in-Err-clause-served : goal.returns-in-Err-clause-served
returns-in-Err-clause-served g c service is =
    let memory = memory-wanted (Serve service) c.in-Err.fault (asked c.args.words.now) c.in-Err.ensures.fault is in
    let notes = span (g.N.Sink.seen c.args.notes.now) (g.N.Sink.seen c.noted.new.notes) in
    let output = g.K.Sink.seen c.args.output.now in
    let links = g.L.Links.seen c.args.links.now in
    let input = g.S.Source.seen c.args.input.now in
    subst (EndsServing service (ends (span input input) (span output output) (span links links)) notes)
    (sym (c.noted.ensures.status ∙ ap status_of memory))
    (subst (λ (f : Fault). Noted f notes.before notes.after) memory c.noted.ensures.noted)

pub returns-in-Err-clause-kept : goal.returns-in-Err-clause-kept
returns-in-Err-clause-kept g c keeping is =
    let memory = memory-wanted (Keep keeping) c.in-Err.fault (asked c.args.words.now) c.in-Err.ensures.fault is in
    let notes = span (g.N.Sink.seen c.args.notes.now) (g.N.Sink.seen c.noted.new.notes) in
    let output = g.K.Sink.seen c.args.output.now in
    let links = g.L.Links.seen c.args.links.now in
    let input = g.S.Source.seen c.args.input.now in
    subst (EndsKeeping keeping (ends (span input input) (span output output) (span links links)) notes)
    (sym (c.noted.ensures.status ∙ ap status_of memory)) (
      inl (record { output = refl; links = refl }),
      subst (λ (f : Fault). Noted f notes.before notes.after) memory c.noted.ensures.noted,
    )

pub returns-in-Err-clause-drilled : goal.returns-in-Err-clause-drilled
returns-in-Err-clause-drilled g c drill is =
    let memory = memory-wanted (Drill drill) c.in-Err.fault (asked c.args.words.now) c.in-Err.ensures.fault is in
    let notes = span (g.N.Sink.seen c.args.notes.now) (g.N.Sink.seen c.noted.new.notes) in
    let output = g.K.Sink.seen c.args.output.now in
    subst (EndsDrilling drill (span output output) notes) (sym (c.noted.ensures.status ∙ ap status_of memory))
    (subst (λ (f : Fault). Noted f notes.before notes.after) memory c.noted.ensures.noted)
