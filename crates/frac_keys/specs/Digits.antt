-- The digits of base 62, as bytes.
use Rattle.std.specs.Prelude.{ℕ, ◌+◌, ◌-◌, ◌/◌, Bool, nat_lt, nat_le, if◌then◌else◌}
use Rattle.std.specs.Char.{is_ascii_alphanumeric}

-- A digit is one of `0` to `9`, `A` to `Z`, `a` to `z`. Source: the alphabet of rocicorp's
-- fractional-indexing.
abbrev pub is_key_digit : ℕ → Bool
is_key_digit byte = is_ascii_alphanumeric byte

-- The value of a digit, 0 to 61 in the order of the bytes; `9` is byte 57 and `Z` byte 90. Source:
-- rocicorp's fractional-indexing.
unfoldable pub digit_value : ℕ → ℕ
digit_value byte =
    if nat_le byte 57 then byte - 48 else (if nat_le byte 90 then byte - 55 else byte - 61)

-- The digit of a value below 62. Source: rocicorp's fractional-indexing.
unfoldable pub digit_byte : ℕ → ℕ
digit_byte value =
    if nat_lt value 10 then value + 48 else (if nat_lt value 36 then value + 55 else value + 61)

-- The digit halfway between two values, rounded up. Source: rocicorp's fractional-indexing.
abbrev pub middle_digit : ℕ → ℕ → ℕ
middle_digit low high = digit_byte ((low + high + 1) / 2)
