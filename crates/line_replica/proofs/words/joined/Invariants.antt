use Rattle.std.proofs.Common.{◌≡◌, ◌++◌, string_bytes, take}
use Rattle.board_base.specs.Pieces.{line_text}
use Rattle.line_replica.proofs.words.joined.Given as goal

abbrev pub invariant-loop-piece : goal.invariant-loop-piece
invariant-loop-piece l = string_bytes l.out ≡ l.words ++ line_text (take l.piece-index l.pieces)
