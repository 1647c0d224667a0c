use Rattle.std.proofs.Common.{take, ◌≤◌}
use Rattle.board_ends.specs.Ends.{Took, KeepsSafe, IsSafeHeld}
use Rattle.board_base.specs.Pieces.{line_text}
use Rattle.board_ends.proofs.pieces.write_pieces.Given as goal

abbrev pub invariant-loop-piece : goal.invariant-loop-piece
invariant-loop-piece g l = record {
  taken : Took (g.K.Sink.seen l.initial.sink) (g.K.Sink.seen l.sink) (line_text (take l.piece-index l.pieces));
  safe : KeepsSafe (g.K.Sink.seen l.initial.sink) (g.K.Sink.seen l.sink);
  safe_held : IsSafeHeld (g.K.Sink.seen l.initial.sink) → IsSafeHeld (g.K.Sink.seen l.sink);
  counted : (g.K.Sink.seen l.initial.sink).faults ≤ (g.K.Sink.seen l.sink).faults;
}
