use Rattle.std.proofs.Common.{◌≡◌, ◌++◌, Err, [], take, refl, sym, ap, subst, arith}
use Rattle.board_ends.proofs.CallerLemmas.{Gave-more}
use Rattle.input_texts.specs.Answering.{WereAnswered, WereAnsweredInPart}
use Rattle.input_texts.specs.Lines.{lines_of, lines_behind, begun_of}
use Rattle.input_texts.specs.inner.Begun.{IsBegun}
use Rattle.input_texts.specs.declared.answering.LinesFault.TheVariants.{WriteFailed}
use Rattle.input_texts.proofs.LineLaws.{lines-append, begun-append}
use Rattle.input_texts.proofs.Streams.{Gave-none}
use Rattle.input_texts.proofs.Answered.{none-answered, answered-more, part-behind}
use Rattle.input_texts.proofs.answering.answer_lines.Goals as goal

pub pieces-init : goal.pieces-init
pieces-init g c = record {
  talked = (
    [],
    Gave-none (g.S.Source.seen c.args.source.now).left,
    λ held. c.new-begun.ensures.none,
    none-answered g.A.Answerer.answers c.args.lost.now (g.A.Answerer.stands c.args.answerer.now)
        (g.A.Answerer.stands c.args.answerer.now) (g.K.Sink.seen c.args.sink.now) (g.K.Sink.seen c.args.sink.now)
        (λ state stands. stands) refl,
  );
  source_counted = omega arith;
  sink_counted = omega arith;
  piece = c.in_ok-piece.ensures;
}

pub pieces-preserved : goal.pieces-preserved
pieces-preserved g c =
    let answers = g.A.Answerer.answers in
    let lost = c.args.lost.now in
    let before = g.A.Answerer.stands c.args.answerer.now in
    let middle = g.A.Answerer.stands c.pieces.answerer in
    let after = g.A.Answerer.stands c.next_piece.new.answerer in
    let old = g.K.Sink.seen c.args.sink.now in
    let between = g.K.Sink.seen c.pieces.sink in
    let new = g.K.Sink.seen c.next_piece.new.sink in
    let some = c.pieces.invariant.talked in
    let more = take c.in-Ok.field-0 c.next_piece.new.piece in
    record {
      talked = (
        some.0 ++ more,
        Gave-more _ _ _ some.0 more some.1 c.in-Ok.ensures.given,
        subst (IsBegun c.next_piece.new.begun) (sym (begun-append [] some.0 more))
            (c.in-Ok.ensures.begun (begun_of some.0) some.2),
        subst (WereAnswered answers lost before after old new) (sym (lines-append [] some.0 more))
            (answered-more answers lost before middle after old between new (lines_of some.0)
            (lines_behind (begun_of some.0) more) some.3 (c.in-Ok.ensures.answered (begun_of some.0) some.2)),
      );
      source_counted = omega (arith, c.in-Ok.ensures.source_counted, c.pieces.invariant.source_counted);
      sink_counted = omega (arith, c.in-Ok.ensures.sink_counted, c.pieces.invariant.sink_counted);
      piece = c.pieces.invariant.piece;
    }

pub returns-in-Ok-eq0-clause-answered : goal.returns-in-Ok-eq0-clause-answered
returns-in-Ok-eq0-clause-answered g c _ =
    let answers = g.A.Answerer.answers in
    let lost = c.args.lost.now in
    let before = g.A.Answerer.stands c.args.answerer.now in
    let middle = g.A.Answerer.stands c.pieces.answerer in
    let after = g.A.Answerer.stands c.next_piece.new.answerer in
    let old = g.K.Sink.seen c.args.sink.now in
    let between = g.K.Sink.seen c.pieces.sink in
    let new = g.K.Sink.seen c.next_piece.new.sink in
    let some = c.pieces.invariant.talked in
    let more = take c.in-Ok-eq0.field-0 c.next_piece.new.piece in (
      some.0 ++ more,
      Gave-more _ _ _ some.0 more some.1 c.in-Ok-eq0.ensures.given,
      subst (WereAnswered answers lost before after old new) (sym (lines-append [] some.0 more))
          (answered-more answers lost before middle after old between new (lines_of some.0)
          (lines_behind (begun_of some.0) more) some.3 (c.in-Ok-eq0.ensures.answered (begun_of some.0) some.2)),
    )

pub returns-in-Err-clause-part : goal.returns-in-Err-clause-part
returns-in-Err-clause-part g c is =
    let answers = g.A.Answerer.answers in
    let lost = c.args.lost.now in
    let before = g.A.Answerer.stands c.args.answerer.now in
    let middle = g.A.Answerer.stands c.pieces.answerer in
    let after = g.A.Answerer.stands c.next_piece.new.answerer in
    let old = g.K.Sink.seen c.args.sink.now in
    let between = g.K.Sink.seen c.pieces.sink in
    let new = g.K.Sink.seen c.next_piece.new.sink in
    let some = c.pieces.invariant.talked in
    let same : c.in-Err.fault ≡ WriteFailed = cc in
    let part = c.in-Err.ensures.part (ap Err same) (begun_of some.0) some.2 in (
      some.0 ++ part.0,
      Gave-more _ _ _ some.0 part.0 some.1 part.1,
      subst (WereAnsweredInPart answers lost before after old new) (sym (lines-append [] some.0 part.0))
          (part-behind answers lost before middle after old between new (lines_of some.0)
          (lines_behind (begun_of some.0) part.0) some.3 part.2),
    )
