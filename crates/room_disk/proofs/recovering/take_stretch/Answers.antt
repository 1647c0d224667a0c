use Rattle.std.proofs.Common.{◌≡◌, ◌<◌, ◌∷◌, [], ◌++◌, length, take, ap, ◌∙◌, subst, arith}
use Rattle.room_disk.specs.inner.UnderWay.{IsReadTo}
use Rattle.input_texts.proofs.CallerLemmas.{front-none, front-ended}
use Rattle.room_disk.proofs.Stretches.{stands-on, stands-behind}
use Rattle.room_disk.proofs.recovering.take_stretch.Goals as goal

pub returns-then-front-piece-clause-taken : goal.returns-then-front-piece-clause-taken
returns-then-front-piece-clause-taken c =
    let front = take c.line_end-front.result c.args.piece.now in
    let none = front-none c.args.piece.now c.line_end-front.result c.line_end-front.ensures.end in
    λ stream stands. rw c.in_ok-extend_from_slice.ensures.items
    (stands-on stream c.args.begun.now.items front c.args.recovery.now none stands)

pub returns-clause-taken : goal.returns-clause-taken
returns-clause-taken c =
    let piece = c.args.piece.now in
    let n = c.line_end-front.result in
    let within : n < length piece = omega (arith, c.if-front-piece.false, c.line_end-front.ensures.within) in
    let line : c.as_slice.result.now ≡ (c.args.begun.now.items ++ take n piece) ++ 10 ∷ [] =
    c.as_slice.ensures.value ∙ (c.in_ok-push.ensures.items
    ∙ ap (λ b. b ++ 10 ∷ []) c.in_ok-extend_from_slice.ensures.items) in
    λ stream stands.
    rw (c.clear.ensures.items, front-ended piece n c.line_end-front.ensures.end within)
    (stands-behind stream c.args.begun.now.items (take n piece) c.args.recovery.now c.take_line.new.self
    (front-none piece n c.line_end-front.ensures.end)
    (λ lines read. subst (λ l. IsReadTo (lines ++ l ∷ []) c.take_line.new.self) line
    (c.in_ok-take_line.ensures lines read)) stands)
