-- Keys between two others, either of which may be absent. Source, but where it says so: rocicorp's
-- fractional-indexing.
use Rattle.std.specs.Prelude.{ℕ, ◌+◌, ◌-◌, ◌/◌, ◌==◌, nat_lt, if◌then◌else◌, List, [], ◌∷◌, ◌++◌, length, replicate, Option, Some, None, option_map, unwrap_or, bytes_eq, codes, zero, suc}
use Rattle.std.specs.Option.{option_map_or}
use Rattle.frac_keys.specs.Digits.{digit_value, digit_byte, middle_digit}
use Rattle.frac_keys.specs.Keys.{digit_count, integer_part, fraction, smallest_integer, bytes_less}

-- The first digit of a fraction, which is `0`, byte 48, at its end.
abbrev pub first_digit : List ℕ → ℕ
first_digit [] = 48
first_digit (digit ∷ _) = digit

-- What follows the first digit of a fraction.
abbrev pub later_digits : List ℕ → List ℕ
later_digits [] = []
later_digits (_ ∷ rest) = rest

-- A fraction above the one given: halfway to 62 in its first digit, or further on where that is 61.
unfoldable pub midpoint_above : List ℕ → List ℕ
midpoint_above [] = middle_digit 0 62 ∷ []
midpoint_above (digit ∷ rest) =
    if nat_lt 1 (62 - digit_value digit) then middle_digit (digit_value digit) 62 ∷ [] else digit
    ∷ midpoint_above rest

-- A fraction between two whose first digits have no digit between them.
unfoldable pub midpoint_beside : List ℕ → List ℕ → List ℕ
midpoint_beside a [] = []
midpoint_beside a (digit ∷ []) = first_digit a ∷ midpoint_above (later_digits a)
midpoint_beside a (digit ∷ _ ∷ _) = digit ∷ []

-- The fraction between a fraction and a greater one: what both begin with, then the digit halfway,
-- or one more digit where there is none. The greater one is never empty.
unfoldable pub midpoint : List ℕ → List ℕ → List ℕ
midpoint a [] = []
midpoint a (digit ∷ rest) =
    if first_digit a == digit then digit ∷ midpoint (later_digits a) rest
    else (if nat_lt 1 (digit_value digit - digit_value (first_digit a)) then middle_digit
    (digit_value (first_digit a)) (digit_value digit) ∷ []
    else midpoint_beside a (digit ∷ rest))

-- Digits with one added or taken away: the last one that isn't `full` moves on, the full ones
-- behind it become `reset`; none where all are full.
unfoldable pub carried : (full reset : ℕ) → (ℕ → ℕ) → List ℕ → Option (List ℕ)
carried full reset next [] = None
carried full reset next (digit ∷ rest) =
    option_map_or (λ moved. Some (digit ∷ moved)) (carried full reset next rest)
    (if digit == full then None else Some (next digit ∷ replicate (length rest) reset))

-- An integer part with one added or taken away: its digits are, or, where they are full, its head
-- moves on and all its digits are reset; none where the head can't move on.
unfoldable pub stepped : (full reset : ℕ) → (ℕ → ℕ) → (ℕ → Option ℕ) → List ℕ → Option (List ℕ)
stepped full reset next next_head [] = None
stepped full reset next next_head (head ∷ digits) =
    option_map_or (λ moved. Some (head ∷ moved)) (carried full reset next digits)
    (option_map (λ new. new ∷ replicate (digit_count new) reset) (next_head head))

-- The digit after one that isn't `z`, and the digit before one that isn't `0`.
abbrev pub next_digit : ℕ → ℕ
next_digit digit = digit_byte (digit_value digit + 1)

abbrev pub previous_digit : ℕ → ℕ
previous_digit digit = digit_byte (digit_value digit - 1)

-- The head after a head, and the one before it, if there is one: `A` to `Z`, bytes 65 to 90, come
-- before `a` to `z`, bytes 97 to 122.
unfoldable pub next_head : ℕ → Option ℕ
next_head head = if head == 122 then None else Some (if head == 90 then 97 else head + 1)

unfoldable pub previous_head : ℕ → Option ℕ
previous_head head = if head == 65 then None else Some (if head == 97 then 90 else head - 1)

-- The integer parts one above and one below another one, if there are any: digits carry from `z` to
-- `0`, and borrow from `0` to `z`.
abbrev pub increment : List ℕ → Option (List ℕ)
increment integer = stepped 122 48 next_digit next_head integer

abbrev pub decrement : List ℕ → Option (List ℕ)
decrement integer = stepped 48 122 previous_digit previous_head integer

-- The key above a key: the integer part above, or where there is none a greater fraction.
unfoldable pub key_above : List ℕ → List ℕ
key_above a = unwrap_or (increment (integer_part a)) (integer_part a ++ midpoint_above (fraction a))

-- The key below a key: its integer part where that is less, else the one below; beside the smallest
-- integer part the fraction is halved. That it is the smallest integer part followed by `V`, where
-- that part alone would come out, is this project's own.
unfoldable pub key_below : List ℕ → List ℕ
key_below b =
    if bytes_eq (integer_part b) smallest_integer then smallest_integer ++ midpoint [] (fraction b)
    else (if bytes_less (integer_part b) b then integer_part b
    else (let below = unwrap_or (decrement (integer_part b)) smallest_integer in
    if bytes_eq below smallest_integer then smallest_integer ++ codes "V" else below))

-- The key between a key and a greater one: the fraction between theirs where their integer parts
-- agree, else the integer part above the lower one where there is one that is less than the greater
-- key, else a greater fraction.
unfoldable pub key_inside : List ℕ → List ℕ → List ℕ
key_inside a b =
    if bytes_eq (integer_part a) (integer_part b) then integer_part a
    ++ midpoint (fraction a) (fraction b)
    else (let above = unwrap_or (increment (integer_part a)) b in
    if bytes_less above b then above else integer_part a ++ midpoint_above (fraction a))

-- The key between two ends, the first of which is less where both are given.
abbrev pub key_between : Option (List ℕ) → Option (List ℕ) → List ℕ
key_between None None = codes "a0"
key_between None (Some b) = key_below b
key_between (Some a) None = key_above a
key_between (Some a) (Some b) = key_inside a b

-- Keys above an end, each made from the one before it.
unfoldable pub keys_above : Option (List ℕ) → ℕ → List (List ℕ)
keys_above a zero = []
keys_above a (suc n) = key_between a None ∷ keys_above (Some (key_between a None)) n

-- Keys below an end, each made from the one after it.
unfoldable pub keys_below : Option (List ℕ) → ℕ → List (List ℕ)
keys_below b zero = []
keys_below b (suc n) = keys_below (Some (key_between None b)) n ++ key_between None b ∷ []

-- Keys between two ends: half of them below the middle key, the rest above it. `depth` bounds how
-- often the ends are halved; a depth of n is enough for n keys.
unfoldable pub keys_inside : (depth : ℕ) → Option (List ℕ) → Option (List ℕ) → ℕ → List (List ℕ)
keys_inside zero a b n = []
keys_inside (suc depth) a b n =
    if n == 0 then []
    else (let middle = key_between a b in keys_inside depth a (Some middle) (n / 2) ++ middle
    ∷ keys_inside depth (Some middle) b (n - n / 2 - 1))

-- n keys between two ends, the first of which is less where both are given.
abbrev pub keys_between : Option (List ℕ) → Option (List ℕ) → ℕ → List (List ℕ)
keys_between a None n = keys_above a n
keys_between None (Some b) n = keys_below (Some b) n
keys_between (Some a) (Some b) n = keys_inside n (Some a) (Some b) n
