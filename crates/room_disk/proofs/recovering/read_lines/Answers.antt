use Rattle.std.proofs.Common.{◌++◌, take, arith}
use Rattle.board_ends.proofs.CallerLemmas.{Gave-more}
use Rattle.room_disk.proofs.recovering.read_lines.Goals as goal

pub pieces-preserved : goal.pieces-preserved
pieces-preserved g c =
    let some = c.pieces.invariant.taken in
    record {
      taken = (
        some.0 ++ take c.in_ok-count.count c.next_piece.new.piece,
        Gave-more _ _ _ some.0 (take c.in_ok-count.count c.next_piece.new.piece) some.1 c.in_ok-count.ensures.given,
        c.in_ok-count.ensures.taken some.0 some.2,
      );
      counted = omega (arith, c.in_ok-count.ensures.counted, c.pieces.invariant.counted);
      piece = c.pieces.invariant.piece;
    }

pub returns-then-count-eq0-clause-read : goal.returns-then-count-eq0-clause-read
returns-then-count-eq0-clause-read g c =
    let some = c.pieces.invariant.taken in (
      some.0 ++ take c.in_ok-count.count c.next_piece.new.piece,
      Gave-more _ _ _ some.0 (take c.in_ok-count.count c.next_piece.new.piece) some.1 c.in_ok-count.ensures.given,
      c.in_ok-count.ensures.taken some.0 some.2,
    )

pub returns-then-count-eq0-clause-end : goal.returns-then-count-eq0-clause-end
returns-then-count-eq0-clause-end g c =
    c.in_ok-count.ensures.end c.if-count-eq0.true (omega (arith, c.deref_mut.ensures.len, c.pieces.invariant.piece))
