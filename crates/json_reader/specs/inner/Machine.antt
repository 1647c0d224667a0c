-- What each byte does to the machine that reads a value. This project's own, over the grammar of
-- RFC 8259. Only contracts of private functions cite this.
use Rattle.std.specs.Prelude.{◌≡◌, ℕ, zero, suc, ◌+◌, ◌-◌, ◌<◌, Option, Some, None, List, [], ◌∷◌, length, drop, slice_index, is_none, Bool, true, false, not, ◌&&◌, ◌||◌, ◌==◌, nat_lt, nat_le, if◌then◌else◌, option_and_then}
use Rattle.json_text.specs.Characters.{is_space, is_digit, is_hex}
use Rattle.json_text.specs.Tree.{Container, array, object, closing, letter_meaning}
use Rattle.json_text.specs.Value.{extends_number}
pub use Rattle.json_reader.specs.declared.fault.JsonFault.{JsonFault}
pub use Rattle.json_reader.specs.declared.fault.JsonFault.TheVariants.{Syntax, Depth, Utf8}
pub use Rattle.json_reader.specs.declared.number.Part.{Part}
pub use Rattle.json_reader.specs.declared.number.Part.TheVariants.{Minus, Zero, Whole, Dot, Fraction, Letter, Sign, Exponent}
pub use Rattle.json_reader.specs.declared.sequence.Tail.{Tail}
pub use Rattle.json_reader.specs.declared.sequence.Tail.TheVariants.{One, Two, Three, Long3, Low3, Long4, Low4}
pub use Rattle.json_reader.specs.declared.brackets.Bracket.{Bracket}
pub use Rattle.json_reader.specs.declared.brackets.Bracket.TheVariants.{Square, Curly}
pub use Rattle.json_reader.specs.declared.machine.Role.{Role}
pub use Rattle.json_reader.specs.declared.machine.Place.{Place}
pub use Rattle.json_reader.specs.declared.machine.Place.TheVariants.{Plain, Escape, Hex, Sequence}
pub use Rattle.json_reader.specs.declared.machine.Letters.{Letters}
pub use Rattle.json_reader.specs.declared.machine.Letters.TheVariants.{Ull, Ll, L, Rue, Ue, Alse, Lse, Se, E}
pub use Rattle.json_reader.specs.declared.machine.Mode.{Mode}
pub use Rattle.json_reader.specs.declared.machine.Mode.TheVariants.{Fresh, Name, Colon, After, Quoted, Number, Word}
pub use Rattle.json_reader.specs.declared.machine.Machine.{Machine}
pub use Rattle.json_reader.specs.declared.machine.Progress.{Progress}
pub use Rattle.json_reader.specs.declared.machine.Progress.TheVariants.{On, Ended, Refused}
pub use Rattle.json_reader.specs.declared.machine.Move.{Move}
pub use Rattle.json_reader.specs.declared.machine.Move.TheVariants.{To, Open, Close, End, Refuse}

-- ---- numbers
-- the part that may follow a fraction: an exponent
abbrev pub after_fraction : ℕ → Option Part
after_fraction b = if b == 101 || b == 69 then Some Letter else None

-- the part that may follow a whole number: a fraction or an exponent
abbrev pub after_whole : ℕ → Option Part
after_whole b = if b == 46 then Some Dot else after_fraction b

-- the part that a number has come to after one more byte
abbrev pub part_after : Part → ℕ → Option Part
part_after Minus b = if b == 48 then Some Zero else (if is_digit b then Some Whole else None)
part_after Zero b = after_whole b
part_after Whole b = if is_digit b then Some Whole else after_whole b
part_after Dot b = if is_digit b then Some Fraction else None
part_after Fraction b = if is_digit b then Some Fraction else after_fraction b
part_after Letter b =
    if b == 43 || b == 45 then Some Sign else (if is_digit b then Some Exponent else None)
part_after Sign b = if is_digit b then Some Exponent else None
part_after Exponent b = if is_digit b then Some Exponent else None

-- the part that this byte begins a number with
abbrev pub part_begun : ℕ → Option Part
part_begun b = if b == 45 then Some Minus else part_after Minus b

-- the part that a number has come to after these bytes, if it goes on with each
abbrev pub parts_after : Part → List ℕ → Option Part
parts_after part [] = Some part
parts_after part (b ∷ bytes) = option_and_then (λ next. parts_after next bytes) (part_after part b)

-- a number may end after this part
abbrev pub is_complete : Part → Bool
is_complete Minus = false
is_complete Dot = false
is_complete Letter = false
is_complete Sign = false
is_complete part = true

-- These bytes are a number that may end behind them, with this part.
pub record IsWholeNumber (last : Part) (number : List ℕ) : Type 0 where
  pub first : ℕ
  pub others : List ℕ
  pub begun : Part
  pub is : number ≡ first ∷ others
  pub begins : part_begun first ≡ Some begun
  pub goes : parts_after begun others ≡ Some last
  pub ends : is_complete last ≡ true

-- ---- sequences of UTF-8: Unicode, table 3-7
-- what must come after a byte that begins a sequence of more than one
abbrev pub tail_led : ℕ → Option Tail
tail_led b =
    if nat_le 0xC2 b && nat_le b 0xDF then Some One
    else (if b == 0xE0 then Some Long3
    else (if b == 0xED then Some Low3
    else (if nat_le 0xE1 b && nat_le b 0xEF then Some Two
    else (if b == 0xF0 then Some Long4
    else (if nat_le 0xF1 b && nat_le b 0xF3 then Some Three
    else (if b == 0xF4 then Some Low4
    else None))))))

-- this byte may be the next
abbrev pub tail_fits : Tail → ℕ → Bool
tail_fits Long3 b = nat_le 0xA0 b && nat_le b 0xBF
tail_fits Low3 b = nat_le 0x80 b && nat_le b 0x9F
tail_fits Long4 b = nat_le 0x90 b && nat_le b 0xBF
tail_fits Low4 b = nat_le 0x80 b && nat_le b 0x8F
tail_fits tail b = nat_le 0x80 b && nat_le b 0xBF

-- what must come after one byte more
abbrev pub tail_after : Tail → Option Tail
tail_after One = None
tail_after Three = Some Two
tail_after Long4 = Some Two
tail_after Low4 = Some Two
tail_after tail = Some One

-- how many bytes must still come
abbrev pub tail_length : Tail → ℕ
tail_length One = 1
tail_length Three = 3
tail_length Long4 = 3
tail_length Low4 = 3
tail_length tail = 2

-- ---- words
-- how the letters are spelled that must still come
abbrev pub letters_of : Letters → List ℕ
letters_of Ull = 117 ∷ 108 ∷ 108 ∷ []
letters_of Ll = 108 ∷ 108 ∷ []
letters_of L = 108 ∷ []
letters_of Rue = 114 ∷ 117 ∷ 101 ∷ []
letters_of Ue = 117 ∷ 101 ∷ []
letters_of Alse = 97 ∷ 108 ∷ 115 ∷ 101 ∷ []
letters_of Lse = 108 ∷ 115 ∷ 101 ∷ []
letters_of Se = 115 ∷ 101 ∷ []
letters_of E = 101 ∷ []

-- the letter that must come next
abbrev pub first_letter : Letters → ℕ
first_letter letters = slice_index (letters_of letters) 0

-- what must come after it: the other letters, or what follows a value
abbrev pub after_letter : Letters → Mode
after_letter Ull = Word Ll
after_letter Ll = Word L
after_letter Rue = Word Ue
after_letter Ue = Word E
after_letter Alse = Word Lse
after_letter Lse = Word Se
after_letter Se = Word E
after_letter letters = After

-- ---- between values
-- what the bracket opens
abbrev pub container_of : Bracket → Container
container_of Square = array
container_of Curly = object

-- this byte closes the bracket
abbrev pub closes_bracket : Bracket → ℕ → Bool
closes_bracket bracket b = b == closing (container_of bracket)

-- what must come after a comma
abbrev pub after_comma : Bracket → Mode
after_comma Square = Mode.Value
after_comma Curly = Name

-- behind a value
abbrev pub after_move : Option Bracket → ℕ → Move
after_move None b = End
after_move (Some bracket) b =
    if is_space b then To After
    else (if closes_bracket bracket b then Close
    else (if b == 44 then To (after_comma bracket)
    else Refuse))

-- what a byte does in a number, by the part that it goes on with and by whether the number may end
-- before it
abbrev pub number_move_on : Option Part → Bool → Option Bracket → ℕ → Move
number_move_on (Some part) ends top b = To (Number part)
number_move_on None ends top b = if ends then after_move top b else Refuse

-- where a value must come, but for white space
abbrev pub value_begun : ℕ → Move
value_begun b =
    if b == 34 then To (Quoted Role.Value Plain)
    else (if b == 91 then Open Square
    else (if b == 123 then Open Curly
    else (if b == 110 then To (Word Ull)
    else (if b == 116 then To (Word Rue)
    else (if b == 102 then To (Word Alse)
    else number_move_on (part_begun b) false None b)))))

-- the first value or name in a container
abbrev pub first_move : Bracket → ℕ → Move
first_move Square b = value_begun b
first_move Curly b = if b == 34 then To (Quoted Role.Name Plain) else Refuse

-- ---- strings
-- what comes behind a string
abbrev pub after_string : Role → Mode
after_string Role.Name = Colon
after_string Role.Value = After

-- what a byte of 0x80 or more does between two characters, by what must come after it
abbrev pub led_on : Role → Option Tail → Move
led_on r (Some tail) = To (Quoted r (Sequence (tail_length tail + 1) tail))
led_on r None = Refuse

-- behind a digit of base 16 that so many more must follow
abbrev pub after_digit : ℕ → Place
after_digit zero = Plain
after_digit (suc more) = Hex more

-- behind a byte of a sequence, by what must come after it
abbrev pub in_sequence : ℕ → Option Tail → Place
in_sequence length (Some tail) = Sequence length tail
in_sequence length None = Plain

-- in a string
abbrev pub string_move : Role → Place → ℕ → Move
string_move r Plain b =
    if b == 34 then To (after_string r)
    else (if b == 92 then To (Quoted r Escape)
    else (if nat_lt b 0x20 then Refuse
    else (if nat_lt b 0x80 then To (Quoted r Plain)
    else led_on r (tail_led b))))
string_move r Escape b =
    if b == 117 then To (Quoted r (Hex 3)) else (if letter_meaning b == 0 then Refuse else To
    (Quoted r Plain))
string_move r (Hex more) b = if is_hex b then To (Quoted r (after_digit more)) else Refuse
string_move r (Sequence length tail) b = if tail_fits tail b then To
    (Quoted r (in_sequence length (tail_after tail))) else Refuse

-- ---- the machine
-- what a byte does in a mode, where this bracket is the innermost open one
abbrev pub moved : Mode → Option Bracket → ℕ → Move
moved Mode.Value top b = if is_space b then To Mode.Value else value_begun b
moved Fresh None b = End
moved Fresh (Some bracket) b = if is_space b then To Fresh else
    (if closes_bracket bracket b then Close else first_move bracket b)
moved Name top b = if is_space b then To Name else first_move Curly b
moved Colon top b = if is_space b then To Colon else (if b == 58 then To Mode.Value else Refuse)
moved After top b = after_move top b
moved (Quoted r place) top b = string_move r place b
moved (Number part) top b =
    number_move_on (part_after part b) (is_complete part && not (extends_number b)) top b
moved (Word letters) top b = if first_letter letters == b then To (after_letter letters) else Refuse

-- What comes of a byte: a mode and the open brackets, the innermost first; the value has ended
-- before this byte; or no value goes on with it.
pub data Outcome : Type 0 where
  state : Mode → List Bracket → Outcome
  ended : ℕ → Outcome
  refused : Outcome

-- the innermost open bracket
abbrev pub top : List Bracket → Option Bracket
top [] = None
top (bracket ∷ st) = Some bracket

-- the two innermost open brackets are square
abbrev pub are_square : List Bracket → Bool
are_square (Square ∷ Square ∷ st) = true
are_square st = false

-- what comes of a move, where at most so many brackets may be open
abbrev pub applied : ℕ → List Bracket → ℕ → Move → Outcome
applied limit st b (To m) = state m st
applied limit st b (Open bracket) =
    if nat_lt (length st) limit then state Fresh (bracket ∷ st) else refused
applied limit st b Close = state After (drop 1 st)
applied limit st b End = ended b
applied limit st b Refuse = refused

-- what comes of a byte, where at most so many brackets may be open
abbrev pub step : ℕ → Mode → List Bracket → ℕ → Outcome
step limit m st b = applied limit st b (moved m (top st) b)

-- ---- the fault where a text ends or goes on with this byte, and no value does
-- a byte that begins no sequence of UTF-8, though it is not below 0x80
abbrev pub is_stray : ℕ → Bool
is_stray b = nat_le 0x80 b && is_none (tail_led b)

-- the fault in a string, outside a sequence
abbrev pub stray_fault : Option ℕ → ℕ → JsonFault
stray_fault None n = Syntax n
stray_fault (Some b) n = if is_stray b then Utf8 n else Syntax n

-- the fault in a string; that of a sequence is at its first byte
abbrev pub string_fault : Place → Option ℕ → ℕ → JsonFault
string_fault (Sequence length tail) byte n = Utf8 (n - (length - tail_length tail))
string_fault place byte n = stray_fault byte n

-- the move opens a bracket
abbrev pub opens : Move → Bool
opens (Open bracket) = true
opens move = false

-- the fault outside strings: a bracket is refused only where one too many is open
abbrev pub bracket_fault : Mode → Option Bracket → Option ℕ → ℕ → JsonFault
bracket_fault m top None n = Syntax n
bracket_fault m top (Some b) n = if opens (moved m top b) then Depth n else Syntax n

-- the fault at the offset n
abbrev pub fault_of : Mode → Option Bracket → Option ℕ → ℕ → JsonFault
fault_of (Quoted r place) top byte n = string_fault place byte n
fault_of m top byte n = bracket_fault m top byte n

-- The machine goes on over this byte.
abbrev pub GoesOn : Machine → ℕ → Machine → Type 0
GoesOn old b new = step 128 old.mode old.brackets b ≡ state new.mode new.brackets

-- What the code said of a byte: taken, or left.
pub record HasTaken (old : Machine) (b : ℕ) (result : Bool) (new : Machine) : Type 0 where
  pub taken : result ≡ true → GoesOn old b new
  pub left : result ≡ false → new ≡ old

-- What a step of the code said: gone on, the value has ended before the byte, or refused.
abbrev pub Stepped : Machine → Machine → Progress → ℕ → Type 0
Stepped old new On b = GoesOn old b new
Stepped old new Ended b = (step 128 old.mode old.brackets b ≡ ended b) × (new ≡ old)
Stepped old new Refused b = (step 128 old.mode old.brackets b ≡ refused) × (new ≡ old)

-- An object is open in which the name of a member may begin, and an array may be opened in it.
pub record AwaitsName (m : Machine) : Type 0 where
  pub room : length m.brackets < 128
  pub in_object : top m.brackets ≡ Some Curly
  pub begins : step 128 m.mode m.brackets 34 ≡ state (Quoted Role.Name Plain) m.brackets

-- a comma may come in this mode, whatever is open
abbrev pub AwaitsComma : Mode → Type 0
AwaitsComma m = (bracket : Bracket) → moved m (Some bracket) 44 ≡ To (after_comma bracket)
