-- The bytes that JSON gives a meaning, and the text of a string. RFC 8259, sections 2, 3 and 7.
use Rattle.std.specs.Prelude.{ℕ, ◌+◌, ◌-◌, ◌/◌, ◌%◌, List, [], ◌∷◌, ◌++◌, Bool, not, ◌&&◌, ◌||◌, ◌==◌, nat_lt, nat_le, if◌then◌else◌, flat_map}
use Rattle.std.specs.List.{list_all}

abbrev pub quotation_mark : ℕ
quotation_mark = 34

abbrev pub comma : ℕ
comma = 44

abbrev pub colon : ℕ
colon = 58

abbrev pub backslash : ℕ
backslash = 92

-- a bracket that opens an array or an object. RFC 8259, section 2.
abbrev pub is_opening : ℕ → Bool
is_opening b = b == 91 || b == 123

-- a bracket that closes one
abbrev pub is_closing : ℕ → Bool
is_closing b = b == 93 || b == 125

-- a byte that may stand behind a value in a container
abbrev pub ends_value : ℕ → Bool
ends_value b = b == comma || is_closing b

-- a byte that plays no part in where a container ends: no quotation mark and no bracket
abbrev pub is_quiet : ℕ → Bool
is_quiet b = not (b == quotation_mark) && (not (is_opening b) && not (is_closing b))

-- a byte that plays no part in where a value ends: no comma either
abbrev pub is_inert : ℕ → Bool
is_inert b = not (b == quotation_mark) && (not (is_opening b) && not (ends_value b))

-- white space: a space, a tab, a line feed or a carriage return. RFC 8259, section 2.
abbrev pub is_space : ℕ → Bool
is_space b = b == 32 || (b == 9 || (b == 10 || b == 13))

-- nothing but white space
abbrev pub is_blank : List ℕ → Bool
is_blank bytes = list_all is_space bytes

abbrev pub is_digit : ℕ → Bool
is_digit b = nat_le 48 b && nat_le b 57

-- a digit of base 16, of either case
abbrev pub is_hex : ℕ → Bool
is_hex b = is_digit b || ((nat_le 65 b && nat_le b 70) || (nat_le 97 b && nat_le b 102))

-- the value of a digit of base 16
abbrev pub hex_value : ℕ → ℕ
hex_value b = if nat_le b 57 then b - 48 else (if nat_le b 70 then b - 55 else b - 87)

-- the digit of base 16, in lower case
abbrev pub hex_digit : ℕ → ℕ
hex_digit n = if nat_lt n 10 then n + 48 else n + 87

-- a byte that neither ends a string nor begins an escape. RFC 8259, section 7.
abbrev pub is_plain : ℕ → Bool
is_plain b = not (b == 34) && not (b == 92)

-- an ASCII character that stands in a string as it is
abbrev pub is_bare : ℕ → Bool
is_bare b = nat_le 0x20 b && (nat_lt b 0x80 && (not (b == 34) && not (b == 92)))

-- a byte that can't stand in a string as it is: a control character, `"` or `\`. RFC 8259, section
-- 7.
abbrev pub needs_escape : ℕ → Bool
needs_escape b = nat_lt b 32 || (b == 34 || b == 92)

-- how a byte of a text stands in its quote: `"` and `\` behind a backslash, five controls by a
-- letter, the other controls by four digits of base 16 in lower case, and all else as it is. This
-- project's own choice among RFC 8259, section 7.
abbrev pub quoted_byte : ℕ → List ℕ
quoted_byte b =
    if b == 34 then 92 ∷ 34 ∷ []
    else (if b == 92 then 92 ∷ 92 ∷ []
    else (if nat_le 32 b then b ∷ []
    else (if b == 8 then 92 ∷ 98 ∷ []
    else (if b == 9 then 92 ∷ 116 ∷ []
    else (if b == 10 then 92 ∷ 110 ∷ []
    else (if b == 12 then 92 ∷ 102 ∷ []
    else (if b == 13 then 92 ∷ 114 ∷ []
    else 92 ∷ 117 ∷ 48 ∷ 48 ∷ hex_digit (b / 16) ∷ hex_digit (b % 16) ∷ [])))))))

-- the quote of a text
unfoldable pub quote : List ℕ → List ℕ
quote text = 34 ∷ (flat_map quoted_byte text ++ 34 ∷ [])
