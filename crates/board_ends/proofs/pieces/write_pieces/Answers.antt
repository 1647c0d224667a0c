use Rattle.std.proofs.Common.{arith}
use Rattle.std.proofs.lemmas.Result.{err_from_is_err_and}
use Rattle.board_base.specs.Pieces.{piece_text}
use Rattle.board_ends.proofs.Moved.{pieces-part, Took-none, Took-piece}
use Rattle.board_ends.proofs.Safe.{KeepsSafe-more, KeepsSafe-same}
use Rattle.board_ends.proofs.pieces.write_pieces.Goals as goal

pub returns-in_err-write_piece-clause-part : goal.returns-in_err-write_piece-clause-part
returns-in_err-write_piece-clause-part g c =
    let p = err_from_is_err_and c.from_residual.result c.from_residual.ensures.1 in
    rw p.1 (pieces-part piece_text c.args.pieces.now c.loop-piece.piece-index _ _ _ _ c.loop-piece-test.true
    c.loop-piece.invariant.taken c.in_err-write_piece.ensures.part)

pub loop-piece-init : goal.loop-piece-init
loop-piece-init g c = record {
  taken = Took-none _;
  safe = KeepsSafe-same _;
  safe_held = λ before. before;
  counted = omega arith;
}

pub loop-piece-preserved : goal.loop-piece-preserved
loop-piece-preserved g c = record {
  taken = Took-piece piece_text c.args.pieces.now c.loop-piece.piece-index _ _ _ _ c.loop-piece-test.true
      c.loop-piece.invariant.taken c.in_ok-write_piece.ensures.ok;
  safe = KeepsSafe-more _ _ _ c.loop-piece.invariant.safe c.in_ok-write_piece.ensures.safe;
  safe_held = λ before. c.in_ok-write_piece.ensures.safe_held (c.loop-piece.invariant.safe_held before);
  counted = omega arith;
}

pub returns-in_err-write_piece-clause-safe : goal.returns-in_err-write_piece-clause-safe
returns-in_err-write_piece-clause-safe g c =
    KeepsSafe-more _ _ _ c.loop-piece.invariant.safe c.in_err-write_piece.ensures.safe

pub returns-in_err-write_piece-clause-safe_held : goal.returns-in_err-write_piece-clause-safe_held
returns-in_err-write_piece-clause-safe_held g c =
    λ before. c.in_err-write_piece.ensures.safe_held (c.loop-piece.invariant.safe_held before)
