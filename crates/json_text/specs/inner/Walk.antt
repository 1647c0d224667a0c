-- What stands at the front of a text that is walked over: a string, what is left of a string; and
-- where a walk is.
-- Only this crate's own bodies and proofs need it.
use Rattle.std.specs.Prelude.{◌≡◌, ℕ, ◌≤◌, List, ◌∷◌, ◌++◌, drop, length, slice_index, flat_map}
use Rattle.std.specs.List.{AllByRecursion}
use Rattle.json_text.specs.Tree.{Piece, unit, IsPiece, piece_spelling}
use Rattle.json_text.specs.Compact.{content, piece_value}

-- The rest of a string, for this text, and its closing quotation mark stand at the front. RFC 8259,
-- section 7.
pub record Unread (bytes text rest : List ℕ) : Type 0 where
  pub pieces : List Piece
  pub good : AllByRecursion IsPiece pieces
  pub parts : bytes ≡ flat_map piece_spelling pieces ++ 34 ∷ rest
  pub means : content pieces ≡ text

-- What stands behind so many bytes is the rest of what stands before them, and was turned into what
-- was appended.
abbrev pub Takes : (List ℕ → List ℕ → List ℕ → Type 0) → List ℕ → ℕ → List ℕ → List ℕ → Type 0
Takes Stand bytes count old new = (text after : List ℕ) → Stand bytes text after →
    (left : List ℕ) × Stand (drop count bytes) left after × (new ++ left ≡ old ++ text)

-- the piece of a `\u` that stands at the front
abbrev pub unit_at : List ℕ → Piece
unit_at bytes =
    unit (slice_index bytes 2) (slice_index bytes 3) (slice_index bytes 4) (slice_index bytes 5)

-- A `\u` and the four digits of this number stand at the front. RFC 8259, section 7.
abbrev pub StartsWithUnit : List ℕ → ℕ → Type 0
StartsWithUnit bytes value =
    (6 ≤ length bytes) × (slice_index bytes 0 ≡ 92) × (slice_index bytes 1 ≡ 117)
    × (piece_value (unit_at bytes) ≡ value)
