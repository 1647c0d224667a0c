use Rattle.std.proofs.Common.{◌≡◌, ◌+◌, ◌<◌, [], ◌∷◌, ◌++◌, length, take, drop, refl, sym, ap, ◌∙◌, subst, arith, take-append-drop}
use Rattle.std.proofs.lemmas.List.{take_all}
use Rattle.json_text.proofs.CallerLemmas.{on_err}
use Rattle.input_texts.specs.Answering.{WereAnswered, WereAnsweredInPart}
use Rattle.input_texts.specs.Lines.{lines_behind, begun_behind}
use Rattle.input_texts.specs.inner.Begun.{IsBegun}
use Rattle.input_texts.proofs.LineLaws.{front-none, none-lines, none-begun, feed-lines, feed-begun, lines-append}
use Rattle.input_texts.proofs.Answered.{none-answered, part-more}
use Rattle.input_texts.proofs.answering.take_stretch.Goals as goal

pub returns-then-front-piece-clause-begun : goal.returns-then-front-piece-clause-begun
returns-then-front-piece-clause-begun g c bytes begun =
    let piece = c.args.piece.now in
    let n = c.line_end-front.result in
    let all : take n piece ≡ piece = take_all n piece (omega (arith, c.if-front-piece.true)) in
    subst (IsBegun c.extend.new.self) (ap (λ p. bytes ++ p) (sym all)
    ∙ sym (none-begun bytes (take n piece) (front-none piece n c.line_end-front.ensures.end)))
    (c.extend.ensures bytes begun)

pub returns-then-front-piece-clause-answered : goal.returns-then-front-piece-clause-answered
returns-then-front-piece-clause-answered g c bytes begun =
    let answers = g.A.Answerer.answers in
    let lost = c.args.lost.now in
    let before = g.A.Answerer.stands c.args.answerer.now in
    let old = g.K.Sink.seen c.args.sink.now in
    let piece = c.args.piece.now in
    let n = c.line_end-front.result in
    subst (WereAnswered answers lost before before old old)
    (sym (none-lines bytes (take n piece) (front-none piece n c.line_end-front.ensures.end)))
    (none-answered answers lost before before old old (λ state stands. stands) refl)

pub returns-in_err-answer_begun-clause-part : goal.returns-in_err-answer_begun-clause-part
returns-in_err-answer_begun-clause-part g c =
    let answers = g.A.Answerer.answers in
    let lost = c.args.lost.now in
    let before = g.A.Answerer.stands c.args.answerer.now in
    let after = g.A.Answerer.stands c.answer_begun.new.answerer in
    let old = g.K.Sink.seen c.args.sink.now in
    let new = g.K.Sink.seen c.answer_begun.new.sink in
    let piece = c.args.piece.now in
    let n = c.line_end-front.result in
    let within : n < length piece = omega (arith, c.if-front-piece.false, c.line_end-front.ensures.within) in
    let stretch = take (n + 1) piece in
    let rest = drop (n + 1) piece in
    on_err c.from_residual.result
    (λ bytes begun.
    let line = bytes ++ stretch in
    let lines : lines_behind bytes piece ≡ (line ∷ []) ++ lines_behind (begun_behind bytes stretch) rest =
    ap (lines_behind bytes) (sym (take-append-drop (n + 1) piece))
    ∙ (lines-append bytes stretch rest ∙ ap (λ ls. ls ++ lines_behind (begun_behind bytes stretch) rest)
    (feed-lines bytes piece n c.line_end-front.ensures.end within)) in
    subst (WereAnsweredInPart answers lost before after old new) (sym lines)
    (part-more answers lost before after old new (line ∷ []) (lines_behind (begun_behind bytes stretch) rest)
    (c.in_err-answer_begun.ensures.part line (c.extend-2.ensures bytes begun))))

pub returns-clause-begun : goal.returns-clause-begun
returns-clause-begun g c bytes begun =
    let piece = c.args.piece.now in
    let n = c.line_end-front.result in
    let within : n < length piece = omega (arith, c.if-front-piece.false, c.line_end-front.ensures.within) in
    subst (IsBegun c.clear.new.self) (sym (feed-begun bytes piece n c.line_end-front.ensures.end within))
    (λ held. c.clear.ensures.none)

pub returns-clause-answered : goal.returns-clause-answered
returns-clause-answered g c bytes begun =
    let answers = g.A.Answerer.answers in
    let lost = c.args.lost.now in
    let before = g.A.Answerer.stands c.args.answerer.now in
    let after = g.A.Answerer.stands c.answer_begun.new.answerer in
    let old = g.K.Sink.seen c.args.sink.now in
    let new = g.K.Sink.seen c.answer_begun.new.sink in
    let piece = c.args.piece.now in
    let n = c.line_end-front.result in
    let within : n < length piece = omega (arith, c.if-front-piece.false, c.line_end-front.ensures.within) in
    subst (WereAnswered answers lost before after old new)
    (sym (feed-lines bytes piece n c.line_end-front.ensures.end within))
    (c.in_ok-answer_begun.ensures.answered (bytes ++ take (n + 1) piece) (c.extend-2.ensures bytes begun))
