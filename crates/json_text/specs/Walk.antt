-- What stands at the front of a text that is walked over: a string, what is left of a string; and
-- where a walk is.
use Rattle.std.specs.Prelude.{◌≡◌, ℕ, List, ◌++◌, Bool, if◌then◌else◌}
use Rattle.std.specs.List.{AllByRecursion}
use Rattle.json_text.specs.Tree.{Piece, IsPiece, string_spelling}
use Rattle.json_text.specs.Compact.{content}

-- A string for this text stands at the front; the rest follows it. RFC 8259, section 7.
pub record Quoted (bytes text rest : List ℕ) : Type 0 where
  pub pieces : List Piece
  pub good : AllByRecursion IsPiece pieces
  pub parts : bytes ≡ string_spelling pieces ++ rest
  pub means : content pieces ≡ text

-- outside strings, or in one and perhaps behind a backslash
pub data Place : Type 0 where
  outside : Place
  inside : Bool → Place

abbrev pub place_of : Bool → Bool → Place
place_of quoted escaped = if quoted then inside escaped else outside
