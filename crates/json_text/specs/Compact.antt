-- The compact text of a tree. RFC 8259, sections 4, 5 and 7; that literals are kept, which of two
-- equal names counts, and what a lone surrogate stands for is this project's own.
use Rattle.std.specs.Prelude.{ℕ, ◌+◌, ◌*◌, ◌-◌, List, [], ◌∷◌, ◌++◌, Bool, not, ◌&&◌, ◌||◌, nat_le, nat_lt, if◌then◌else◌, map, filter, encode_utf8_all}
use Rattle.std.specs.List.{join_with_byte}
use Rattle.std.specs.Str.{bytes_eq}
use Rattle.json_text.specs.Characters.{hex_value, quote}
use Rattle.json_text.specs.Tree.{Piece, bare, letter, unit, letter_meaning, Container, array, object, opening, closing, Label, unnamed, named, Tree, scalar, text, empty, filled, Values, last, next}

-- the number that a piece of a string stands for: a character, or half of one, a surrogate
abbrev pub piece_value : Piece → ℕ
piece_value (bare c) = c
piece_value (letter b) = letter_meaning b
piece_value (unit a b c d) =
    ((hex_value a * 16 + hex_value b) * 16 + hex_value c) * 16 + hex_value d

abbrev pub is_high : ℕ → Bool
is_high u = nat_le 0xD800 u && nat_lt u 0xDC00

abbrev pub is_low : ℕ → Bool
is_low u = nat_le 0xDC00 u && nat_lt u 0xE000

-- the character of a high surrogate and the low one behind it
abbrev pub paired : ℕ → ℕ → ℕ
paired high low = 0x1_0000 + ((high - 0xD800) * 1024 + (low - 0xDC00))

-- what stands alone is itself, and a surrogate is U+FFFD
abbrev pub lone : ℕ → ℕ
lone u = if is_high u || is_low u then 0xFFFD else u

-- the characters: a high surrogate and the low one behind it are one
abbrev pub characters : List ℕ → List ℕ
characters [] = []
characters (u ∷ []) = lone u ∷ []
characters (u ∷ v ∷ us) =
    if is_high u && is_low v then paired u v ∷ characters us else lone u ∷ characters (v ∷ us)

-- the text that the pieces of a string stand for
unfoldable pub content : List Piece → List ℕ
content pieces = encode_utf8_all (characters (map piece_value pieces))

abbrev pub label_name : Label → List ℕ
label_name (unnamed before) = []
label_name (named before name between after) = content name

-- A member is a name and a compact text.
abbrev pub Member : Type 0
Member = List ℕ × List ℕ

abbrev pub has_other_name : List ℕ → Member → Bool
has_other_name name member = not (bytes_eq name member.0)

-- the value of the last member with this name, and the given one where there is none
abbrev pub last_value : List ℕ → List ℕ → List Member → List ℕ
last_value name value [] = value
last_value name value (member ∷ members) =
    if bytes_eq name member.0 then last_value name member.1 members else last_value name value
    members

-- Where a name occurs more than once, the last value counts and stands at the first one's place.
abbrev pub collapsed : List Member → List Member
collapsed [] = []
collapsed (member ∷ members) =
    (member.0, last_value member.0 member.1 members)
    ∷ filter (has_other_name member.0) (collapsed members)

abbrev pub member_text : Member → List ℕ
member_text member = quote member.0 ++ 58 ∷ member.1

-- the text of an array of values with these texts, and of an object of these members
unfoldable pub array_text : List (List ℕ) → List ℕ
array_text values = 91 ∷ (join_with_byte 44 values ++ 93 ∷ [])

unfoldable pub object_text : List Member → List ℕ
object_text members = 123 ∷ (join_with_byte 44 (map member_text members) ++ 125 ∷ [])

abbrev pub container_text : Container → List Member → List ℕ
container_text array members = array_text (map (λ (member : Member). member.1) members)
container_text object members = object_text (collapsed members)

-- the text without white space outside strings, its strings quoted anew, its names once
abbrev mutual
  pub compact : Tree → List ℕ
  compact (scalar literal) = literal
  compact (text pieces) = quote (content pieces)
  compact (empty container blank) = opening container ∷ closing container ∷ []
  compact (filled container values) = container_text container (members values)

  pub members : Values → List Member
  members (last label value blank) = (label_name label, compact value) ∷ []
  members (next label value blank values) = (label_name label, compact value) ∷ members values
