use Rattle.std.proofs.Common.{◌≡◌, take}
use Rattle.board_base.specs.Pieces.{line_text}
use Rattle.commands.proofs.drilling.text_of.Given as goal

-- the pieces so far are appended
abbrev pub invariant-loop-piece : goal.invariant-loop-piece
invariant-loop-piece l = l.text.items ≡ line_text (take l.piece-index l.pieces)
