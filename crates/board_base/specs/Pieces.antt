-- What the pieces of a line say. This project's own.
use Rattle.std.specs.Prelude.{ℕ, List, decimal, flat_map}
use Rattle.board_base.specs.declared.piece.Piece.{Piece}
use Rattle.board_base.specs.declared.piece.Piece.TheVariants.{Words, Number}

-- the text of a piece: its words, or its number in digits
abbrev pub piece_text : Piece → List ℕ
piece_text (Words words) = words.now
piece_text (Number number) = decimal number

-- the text of a line: that of its pieces, one after the other
abbrev pub line_text : List Piece → List ℕ
line_text pieces = flat_map piece_text pieces
