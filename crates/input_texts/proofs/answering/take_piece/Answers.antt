use Rattle.std.proofs.Common.{◌≡◌, ◌+◌, ◌-◌, ◌++◌, length, take, drop, sym, ap, ◌∙◌, subst, arith, length-drop, take-append-drop}
use Rattle.std.proofs.Math.Seq.{take-add}
use Rattle.std.proofs.lemmas.List.{take_rest}
use Rattle.json_text.proofs.CallerLemmas.{on_err}
use Rattle.input_texts.specs.Answering.{WereAnswered, WereAnsweredInPart}
use Rattle.input_texts.specs.Lines.{lines_behind, begun_behind}
use Rattle.input_texts.specs.inner.Begun.{IsBegun}
use Rattle.input_texts.proofs.LineLaws.{lines-append, begun-append}
use Rattle.input_texts.proofs.Answered.{answered-more, part-behind}
use Rattle.input_texts.proofs.answering.take_piece.Goals as goal

pub stretches-preserved : goal.stretches-preserved
stretches-preserved g c =
    let answers = g.A.Answerer.answers in
    let lost = c.args.lost.now in
    let before = g.A.Answerer.stands c.args.answerer.now in
    let middle = g.A.Answerer.stands c.stretches.answerer in
    let after = g.A.Answerer.stands c.take_stretch.new.answerer in
    let old = g.K.Sink.seen c.args.sink.now in
    let between = g.K.Sink.seen c.stretches.sink in
    let new = g.K.Sink.seen c.take_stretch.new.sink in
    let piece = c.args.piece.now in
    let at = c.stretches.at in
    let n = c.in_ok-at.field-0 in
    let left = take (length piece - at) (drop at piece) in
    let join : take at piece ++ take n left ≡ take (at + n) piece =
    ap (λ front. take at piece ++ take n front) (take_rest piece at) ∙ sym (take-add at n piece) in
    let long = ap length (take_rest piece at) ∙ length-drop at piece in
    record {
      within = omega (arith, long, c.in_ok-at.ensures.within, c.stretches.invariant.within);
      begun = λ bytes b.
          subst (IsBegun c.take_stretch.new.begun) (sym (begun-append bytes (take at piece) (take n left))
          ∙ ap (begun_behind bytes) join)
          (c.in_ok-at.ensures.begun (begun_behind bytes (take at piece)) (c.stretches.invariant.begun bytes b));
      answered = λ bytes b.
          subst (WereAnswered answers lost before after old new) (sym (lines-append bytes (take at piece) (take n left))
          ∙ ap (lines_behind bytes) join)
          (answered-more answers lost before middle after old between new (lines_behind bytes (take at piece))
          (lines_behind (begun_behind bytes (take at piece)) (take n left))
          (c.stretches.invariant.answered bytes b) (c.in_ok-at.ensures.answered (begun_behind bytes (take at piece))
          (c.stretches.invariant.begun bytes b)));
      counted = omega (arith, c.in_ok-at.ensures.counted, c.stretches.invariant.counted);
    }

pub returns-in_err-at-clause-part : goal.returns-in_err-at-clause-part
returns-in_err-at-clause-part g c =
    let answers = g.A.Answerer.answers in
    let lost = c.args.lost.now in
    let before = g.A.Answerer.stands c.args.answerer.now in
    let middle = g.A.Answerer.stands c.stretches.answerer in
    let after = g.A.Answerer.stands c.take_stretch.new.answerer in
    let old = g.K.Sink.seen c.args.sink.now in
    let between = g.K.Sink.seen c.stretches.sink in
    let new = g.K.Sink.seen c.take_stretch.new.sink in
    let piece = c.args.piece.now in
    let at = c.stretches.at in
    let left = take (length piece - at) (drop at piece) in
    let all : take at piece ++ left ≡ piece =
    ap (λ rest. take at piece ++ rest) (take_rest piece at) ∙ take-append-drop at piece in
    on_err c.from_residual.result
    (λ bytes b.
    subst (WereAnsweredInPart answers lost before after old new) (sym (lines-append bytes (take at piece) left)
    ∙ ap (lines_behind bytes) all)
    (part-behind answers lost before middle after old between new (lines_behind bytes (take at piece))
    (lines_behind (begun_behind bytes (take at piece)) left)
    (c.stretches.invariant.answered bytes b) (c.in_err-at.ensures.part (begun_behind bytes (take at piece))
    (c.stretches.invariant.begun bytes b))))
