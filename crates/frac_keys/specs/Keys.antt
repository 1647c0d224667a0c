-- Fractional keys: texts whose order by bytes is the order of what they are the keys of.
use Rattle.std.specs.Prelude.{ℕ, ◌-◌, Bool, false, not, ◌&&◌, ◌==◌, nat_le, if◌then◌else◌, List, [], ◌∷◌, length, take, drop, bytes_eq, codes}
use Rattle.std.specs.Char.{is_ascii_alphabetic}
use Rattle.std.specs.Cmp.Lexicographic.{slice_cmp}
use Rattle.std.specs.List.{list_all}
use Rattle.std.specs.Ordering.{is_lt, nat_cmp}
use Rattle.frac_keys.specs.Digits.{is_key_digit}

-- How many digits follow a head in its integer part: 1 to 26 for `a` to `z`, and 1 to 26 for `Z`
-- down to `A`; `Z` is byte 90. Source: rocicorp's fractional-indexing.
unfoldable pub digit_count : ℕ → ℕ
digit_count head = if nat_le head 90 then 91 - head else head - 96

-- The integer part of a key: its head and the digits that the head counts. Source: rocicorp's
-- fractional-indexing.
abbrev pub integer_part : List ℕ → List ℕ
integer_part [] = []
integer_part (head ∷ rest) = head ∷ take (digit_count head) rest

-- Whether bytes are an integer part: a head, and as many digits as it counts. Source: rocicorp's
-- fractional-indexing.
abbrev pub is_integer : List ℕ → Bool
is_integer [] = false
is_integer (head ∷ digits) =
    is_ascii_alphabetic head && length digits == digit_count head && list_all
    is_key_digit digits

-- The fraction of a key: what follows the integer part. Source: rocicorp's fractional-indexing.
abbrev pub fraction : List ℕ → List ℕ
fraction [] = []
fraction (head ∷ rest) = drop (digit_count head) rest

-- Whether the last byte is the digit `0`, byte 48.
abbrev pub ends_in_zero : List ℕ → Bool
ends_in_zero [] = false
ends_in_zero (byte ∷ []) = byte == 48
ends_in_zero (_ ∷ next ∷ rest) = ends_in_zero (next ∷ rest)

-- The smallest integer part, which alone is no key. Source: rocicorp's fractional-indexing.
abbrev pub smallest_integer : List ℕ
smallest_integer = codes "A00000000000000000000000000"

-- A key is a head, the digits that it counts, and a fraction of digits that doesn't end in `0`; the
-- smallest integer part alone is none. Source: rocicorp's fractional-indexing; that each byte is
-- looked at is this project's own.
unfoldable pub is_key : List ℕ → Bool
is_key [] = false
is_key (head ∷ rest) =
    is_ascii_alphabetic head && nat_le (digit_count head) (length rest)
    && list_all is_key_digit rest
    && not (ends_in_zero (drop (digit_count head) rest))
    && not (bytes_eq (head ∷ rest) smallest_integer)

-- Whether a key is less than another one, by their bytes. Source: rocicorp's fractional-indexing.
abbrev pub bytes_less : List ℕ → List ℕ → Bool
bytes_less a b = is_lt (slice_cmp nat_cmp a b)
