-- The syntax tree of a JSON text: every byte of the text is in it. RFC 8259, sections 2 to 7.
use Rattle.std.specs.Prelude.{◌≡◌, ◌≢◌, ◌⊎◌, ℕ, suc, max, ◌≤◌, List, [], ◌∷◌, ◌++◌, true, ◌==◌, if◌then◌else◌, flat_map, encode_utf8}
use Rattle.std.specs.Char.{IsScalar}
use Rattle.std.specs.List.{list_all, AllByRecursion}
use Rattle.json_text.specs.Characters.{is_blank, is_digit, is_hex}

-- A number has a sign, a whole part without leading zeros, a fraction and an exponent; all but the
-- whole part may be missing. RFC 8259, section 6.
abbrev pub IsSign : List ℕ → Type 0
IsSign s = (s ≡ []) ⊎ (s ≡ 45 ∷ [])

abbrev pub AreDigits : List ℕ → Type 0
AreDigits s = (first : ℕ) × (more : List ℕ) × (s ≡ first ∷ more) × (list_all is_digit s ≡ true)

abbrev pub IsIntegerPart : List ℕ → Type 0
IsIntegerPart s = (s ≡ 48 ∷ []) ⊎ ((first : ℕ) × (more : List ℕ) × (s ≡ first ∷ more) × (first ≢ 48)
    × (list_all is_digit s ≡ true))

abbrev pub IsFraction : List ℕ → Type 0
IsFraction s = (s ≡ []) ⊎ ((digits : List ℕ) × (s ≡ 46 ∷ digits) × AreDigits digits)

abbrev pub IsExponent : List ℕ → Type 0
IsExponent s = (s ≡ []) ⊎ ((letter : ℕ) × (sign digits : List ℕ) × (s ≡ letter ∷ (sign ++ digits))
    × ((letter ≡ 101) ⊎ (letter ≡ 69)) × ((sign ≡ []) ⊎ ((sign ≡ 43 ∷ []) ⊎ (sign ≡ 45 ∷ [])))
    × AreDigits digits)

pub record IsNumber (s : List ℕ) : Type 0 where
  pub sign : List ℕ
  pub whole : List ℕ
  pub fraction : List ℕ
  pub exponent : List ℕ
  pub spells : s ≡ sign ++ (whole ++ (fraction ++ exponent))
  pub signed : IsSign sign
  pub counted : IsIntegerPart whole
  pub parted : IsFraction fraction
  pub scaled : IsExponent exponent

-- `null`, `true` and `false`. RFC 8259, section 3.
abbrev pub null_word : List ℕ
null_word = 110 ∷ 117 ∷ 108 ∷ 108 ∷ []

abbrev pub true_word : List ℕ
true_word = 116 ∷ 114 ∷ 117 ∷ 101 ∷ []

abbrev pub false_word : List ℕ
false_word = 102 ∷ 97 ∷ 108 ∷ 115 ∷ 101 ∷ []

abbrev pub IsWord : List ℕ → Type 0
IsWord s = (s ≡ null_word) ⊎ ((s ≡ true_word) ⊎ (s ≡ false_word))

-- A piece of a string: a character as it stands, `\` and a letter, or `\u` and four digits of base
-- 16. RFC 8259, section 7.
pub data Piece : Type 0 where
  bare : ℕ → Piece
  letter : ℕ → Piece
  unit : ℕ → ℕ → ℕ → ℕ → Piece

-- the character that `\` and this letter stand for, and 0 for a letter that may not stand there
abbrev pub letter_meaning : ℕ → ℕ
letter_meaning b =
    if b == 34 then 34
    else (if b == 92 then 92
    else (if b == 47 then 47
    else (if b == 98 then 8
    else (if b == 102 then 12
    else (if b == 110 then 10
    else (if b == 114 then 13
    else (if b == 116 then 9
    else 0)))))))

abbrev pub IsPiece : Piece → Type 0
IsPiece (bare c) = IsScalar c × (32 ≤ c) × (c ≢ 34) × (c ≢ 92)
IsPiece (letter b) = letter_meaning b ≢ 0
IsPiece (unit a b c d) = list_all is_hex (a ∷ b ∷ c ∷ d ∷ []) ≡ true

abbrev pub piece_spelling : Piece → List ℕ
piece_spelling (bare c) = encode_utf8 c
piece_spelling (letter b) = 92 ∷ b ∷ []
piece_spelling (unit a b c d) = 92 ∷ 117 ∷ a ∷ b ∷ c ∷ d ∷ []

abbrev pub string_spelling : List Piece → List ℕ
string_spelling pieces = 34 ∷ (flat_map piece_spelling pieces ++ 34 ∷ [])

-- An array or an object.
pub data Container : Type 0 where
  array : Container
  object : Container

abbrev pub opening : Container → ℕ
opening array = 91
opening object = 123

abbrev pub closing : Container → ℕ
closing array = 93
closing object = 125

-- What stands before a value in a container: white space, or a name between white space, a colon
-- and white space.
pub data Label : Type 0 where
  unnamed : List ℕ → Label
  named : List ℕ → List Piece → List ℕ → List ℕ → Label

abbrev pub label_spelling : Label → List ℕ
label_spelling (unnamed before) = before
label_spelling (named before name between after) =
    before ++ (string_spelling name ++ (between ++ 58 ∷ after))

-- The values of an array have no names, those of an object have.
abbrev pub IsLabel : Container → Label → Type 0
IsLabel array (unnamed before) = is_blank before ≡ true
IsLabel array (named before name between after) = ⊥
IsLabel object (unnamed before) = ⊥
IsLabel object (named before name between after) =
    (is_blank before ≡ true) × AllByRecursion IsPiece name × (is_blank between ≡ true)
    × (is_blank after ≡ true)

-- A tree is a number or a word, a string, an empty container, or one with values; white space may
-- follow each value.
mutual
  pub data Tree : Type 0 where
    scalar : List ℕ → Tree
    text : List Piece → Tree
    empty : Container → List ℕ → Tree
    filled : Container → Values → Tree

  pub data Values : Type 0 where
    last : Label → Tree → List ℕ → Values
    next : Label → Tree → List ℕ → Values → Values

-- the bytes of the text
abbrev mutual
  pub spelling : Tree → List ℕ
  spelling (scalar literal) = literal
  spelling (text pieces) = string_spelling pieces
  spelling (empty container blank) = opening container ∷ (blank ++ closing container ∷ [])
  spelling (filled container values) =
      opening container ∷ (values_spelling values ++ closing container ∷ [])

  pub values_spelling : Values → List ℕ
  values_spelling (last label value blank) = label_spelling label ++ (spelling value ++ blank)
  values_spelling (next label value blank values) =
      label_spelling label ++ (spelling value ++ (blank ++ 44 ∷ values_spelling values))

-- a tree whose parts are what they should be
abbrev mutual
  pub IsGood : Tree → Type 0
  IsGood (scalar literal) = IsNumber literal ⊎ IsWord literal
  IsGood (text pieces) = AllByRecursion IsPiece pieces
  IsGood (empty container blank) = is_blank blank ≡ true
  IsGood (filled container values) = AreGood container values

  pub AreGood : Container → Values → Type 0
  AreGood container (last label value blank) =
      IsLabel container label × IsGood value × (is_blank blank ≡ true)
  AreGood container (next label value blank values) =
      IsLabel container label × IsGood value × (is_blank blank ≡ true) × AreGood container values

-- how many brackets are open at once
abbrev mutual
  pub depth : Tree → ℕ
  depth (scalar literal) = 0
  depth (text pieces) = 0
  depth (empty container blank) = 1
  depth (filled container values) = suc (values_depth values)

  pub values_depth : Values → ℕ
  values_depth (last label value blank) = depth value
  values_depth (next label value blank values) = max (depth value) (values_depth values)
