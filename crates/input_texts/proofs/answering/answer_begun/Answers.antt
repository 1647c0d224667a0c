use Rattle.std.proofs.Common.{◌≡◌, ◌∙◌, subst}
use Rattle.std.proofs.lemmas.Result.{on_ok_weaker, on_err_weaker}
use Rattle.board_ends.specs.Ends.{Took}
use Rattle.input_texts.specs.Answering.{output_line}
use Rattle.input_texts.proofs.Answered.{TookPart, lead-answer, lead-lost, one-answered, one-in-part}
use Rattle.input_texts.proofs.answering.answer_begun.Goals as goal

pub returns-then-line-clause-answered : goal.returns-then-line-clause-answered
returns-then-line-clause-answered g c =
    let answers = g.A.Answerer.answers in
    let lost = c.args.lost.now in
    let before = g.A.Answerer.stands c.args.answerer.now in
    on_ok_weaker c.write_line.result
    (λ taken bytes begun. one-answered answers lost before before (g.K.Sink.seen c.args.sink.now)
    (g.K.Sink.seen c.write_line.new.sink) bytes lost
    (lead-lost answers lost before before bytes (λ state stands. stands)) taken)
    c.write_line.ensures.ok

pub returns-then-line-clause-part : goal.returns-then-line-clause-part
returns-then-line-clause-part g c =
    let answers = g.A.Answerer.answers in
    let lost = c.args.lost.now in
    let before = g.A.Answerer.stands c.args.answerer.now in
    on_err_weaker c.write_line.result
    (λ part bytes begun. one-in-part answers lost before before (g.K.Sink.seen c.args.sink.now)
    (g.K.Sink.seen c.write_line.new.sink) bytes lost
    (lead-lost answers lost before before bytes (λ state stands. stands)) part)
    c.write_line.ensures.part

pub returns-in-Ok-clause-answered : goal.returns-in-Ok-clause-answered
returns-in-Ok-clause-answered g c =
    let answers = g.A.Answerer.answers in
    let lost = c.args.lost.now in
    let before = g.A.Answerer.stands c.args.answerer.now in
    let after = g.A.Answerer.stands c.answer.new.self in
    let old = g.K.Sink.seen c.args.sink.now in
    let new = g.K.Sink.seen c.write_line-in-Ok.new.sink in
    on_ok_weaker c.write_line-in-Ok.result
    (λ taken bytes begun.
    let line : c.deref.result.now ≡ bytes = c.deref.ensures.value ∙ begun c.if-line.false in
    one-answered answers lost before after old new bytes c.in-Ok.text
    (lead-answer answers lost before after c.deref.result.now bytes c.in-Ok.text line c.in-Ok.ensures.answered)
    (subst (λ text. Took old new (output_line text)) c.as_slice.ensures taken))
    c.write_line-in-Ok.ensures.ok

pub returns-in-Ok-clause-part : goal.returns-in-Ok-clause-part
returns-in-Ok-clause-part g c =
    let answers = g.A.Answerer.answers in
    let lost = c.args.lost.now in
    let before = g.A.Answerer.stands c.args.answerer.now in
    let after = g.A.Answerer.stands c.answer.new.self in
    let old = g.K.Sink.seen c.args.sink.now in
    let new = g.K.Sink.seen c.write_line-in-Ok.new.sink in
    on_err_weaker c.write_line-in-Ok.result
    (λ part bytes begun.
    let line : c.deref.result.now ≡ bytes = c.deref.ensures.value ∙ begun c.if-line.false in
    one-in-part answers lost before after old new bytes c.in-Ok.text
    (lead-answer answers lost before after c.deref.result.now bytes c.in-Ok.text line c.in-Ok.ensures.answered)
    (subst (λ text. TookPart old new (output_line text)) c.as_slice.ensures part))
    c.write_line-in-Ok.ensures.part

pub returns-in-Err-clause-answered : goal.returns-in-Err-clause-answered
returns-in-Err-clause-answered g c =
    let answers = g.A.Answerer.answers in
    let lost = c.args.lost.now in
    let before = g.A.Answerer.stands c.args.answerer.now in
    let after = g.A.Answerer.stands c.answer.new.self in
    on_ok_weaker c.write_line-in-Err.result
    (λ taken bytes begun. one-answered answers lost before after (g.K.Sink.seen c.args.sink.now)
    (g.K.Sink.seen c.write_line-in-Err.new.sink) bytes lost
    (lead-lost answers lost before after bytes c.in-Err.ensures.kept) taken)
    c.write_line-in-Err.ensures.ok

pub returns-in-Err-clause-part : goal.returns-in-Err-clause-part
returns-in-Err-clause-part g c =
    let answers = g.A.Answerer.answers in
    let lost = c.args.lost.now in
    let before = g.A.Answerer.stands c.args.answerer.now in
    let after = g.A.Answerer.stands c.answer.new.self in
    on_err_weaker c.write_line-in-Err.result
    (λ part bytes begun. one-in-part answers lost before after (g.K.Sink.seen c.args.sink.now)
    (g.K.Sink.seen c.write_line-in-Err.new.sink) bytes lost
    (lead-lost answers lost before after bytes c.in-Err.ensures.kept) part)
    c.write_line-in-Err.ensures.part
