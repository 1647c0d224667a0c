use Rattle.std.proofs.Common.{ℕ, ◌+◌, arith, rules}
use Rattle.std.proofs.lemmas.List.{length-take}
use Rattle.std.proofs.lemmas.Result.{err_from_is_err_and}
use Rattle.board_ends.proofs.CallerLemmas.{Gave-part}
use Rattle.input_texts.proofs.Streams.{HasTaken, taken-more}
use Rattle.input_texts.proofs.input.read_texts.Goals as goal

pub returns-in_err-count-clause-ends : goal.returns-in_err-count-clause-ends
returns-in_err-count-clause-ends g c =
    let taken = c.pieces.invariant.taken in
    let some = Gave-part _ _ _ _ _ _ taken.given c.in_err-count.ensures.stopped in
    let p = err_from_is_err_and c.from_residual-in_err-count.result c.from_residual-in_err-count.ensures.1 in
    record {
      end = search rules;
      failed = search rules;
      failed_within = search rules;
      too_long = search rules;
      stopped = rw p.1 (
        some.0,
        omega (arith, some.1, taken.width, length-take {A = ℕ}, c.min-wanted.ensures, c.pieces.piece.ok.0),
        some.2,
      );
      counted = omega (arith, c.in_err-count.ensures.counted, c.pieces.invariant.counted);
    }

-- the bytes that were taken, with the piece that came
pub returns-then-count-eq0-clause-read : goal.returns-then-count-eq0-clause-read
returns-then-count-eq0-clause-read g c =
    let source = g.S.Source.seen in
    let all : HasTaken (source c.args.source.now) (source c.next_piece.new.source) (c.pieces.used + c.in_ok-count.count)
    c.next_piece.new.feed (g.R.Reader.seen c.next_piece.new.reader) c.next_piece.new.stop =
    taken-more _ (source c.pieces.source) _ c.pieces.used c.in_ok-count.count _ c.in_ok-count.ensures.given _ _ _ _ _ _
    c.in_ok-count.ensures.bound c.in_ok-count.ensures.taken c.pieces.invariant.taken in (
      all.stream,
      omega (arith, all.width, c.if-count-eq0.true, c.pieces-test.true),
      all.given,
      c.in_ok-finish.ensures all.stream all.stands,
    )

pub pieces-preserved : goal.pieces-preserved
pieces-preserved g c = record {
  within = omega (
    arith,
    c.in_ok-count.ensures.bound,
    length-take {A = ℕ},
    c.min-wanted.ensures,
    c.pieces.piece.ok.0,
    c.deref_mut.ensures.len,
    c.pieces-test.true,
  );
  taken = taken-more _ (g.S.Source.seen c.pieces.source) _ c.pieces.used c.in_ok-count.count _
      c.in_ok-count.ensures.given _ _ _ _ _ _ c.in_ok-count.ensures.bound c.in_ok-count.ensures.taken
      c.pieces.invariant.taken;
  counted = omega (arith, c.in_ok-count.ensures.counted, c.pieces.invariant.counted);
  piece = c.pieces.invariant.piece;
}
