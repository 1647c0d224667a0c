-- The digits and their values are in the same order.
use Rattle.std.proofs.Common.{◌≡◌, ℕ, ◌+◌, ◌-◌, ◌/◌, ◌<◌, ◌≤◌, ◌⊎◌, true, arith}
use Rattle.std.proofs.lemmas.Bool.Decides.{nat_tests}
use Rattle.frac_keys.specs.Digits.{is_key_digit, digit_value, digit_byte, middle_digit}

-- where a digit stands among the bytes
pub is_key_digit-range : (b : ℕ) → is_key_digit b ≡ true → ((48 ≤ b) × (b ≤ 57))
    ⊎ (((65 ≤ b) × (b ≤ 90)) ⊎ ((97 ≤ b) × (b ≤ 122)))
is_key_digit-range b h = grind (arith, nat_tests)

pub digit_value-lt : (b : ℕ) → is_key_digit b ≡ true → digit_value b < 62
unfolding digit_value
digit_value-lt b h = grind (arith, nat_tests, is_key_digit-range b h)

-- only `z` has the value 61, and only `0` the value 0
pub digit_value-lt_last : (b : ℕ) → is_key_digit b ≡ true → (b ≡ 122 → ⊥) → digit_value b < 61
unfolding digit_value
digit_value-lt_last b h ne = grind (arith, nat_tests, is_key_digit-range b h)

pub digit_value-gt_first : (b : ℕ) → is_key_digit b ≡ true → (b ≡ 48 → ⊥) → 0 < digit_value b
unfolding digit_value
digit_value-gt_first b h ne = grind (arith, nat_tests, is_key_digit-range b h)

pub digit_byte-digit : (v : ℕ) → v < 62 → is_key_digit (digit_byte v) ≡ true
unfolding digit_byte
digit_byte-digit v h = grind (arith, nat_tests)

pub digit_byte-above : (b v : ℕ) → is_key_digit b ≡ true → digit_value b < v → b < digit_byte v
unfolding digit_byte digit_value
digit_byte-above b v h l = grind (arith, nat_tests, is_key_digit-range b h)

pub digit_byte-below : (b v : ℕ) → is_key_digit b ≡ true → v < digit_value b → digit_byte v < b
unfolding digit_byte digit_value
digit_byte-below b v h l = grind (arith, nat_tests, is_key_digit-range b h)

-- the middle digit of two values that are more than one apart
pub middle_digit-above : (b high : ℕ) → is_key_digit b ≡ true → 1 < high - digit_value b → high ≤ 62
    → (is_key_digit (middle_digit (digit_value b) high) ≡ true) × (b < middle_digit (digit_value b) high)
middle_digit-above b high h far most =
    let above : digit_value b < (digit_value b + high + 1) / 2 = omega arith in
    let below : (digit_value b + high + 1) / 2 < 62 = omega arith in (
      digit_byte-digit ((digit_value b + high + 1) / 2) below,
      digit_byte-above b ((digit_value b + high + 1) / 2) h above,
    )

pub middle_digit-below : (low b : ℕ) → is_key_digit b ≡ true → 1 < digit_value b - low
    → middle_digit low (digit_value b) < b
middle_digit-below low b h far = let below : (low + digit_value b + 1) / 2 < digit_value b = omega arith in
    digit_byte-below b ((low + digit_value b + 1) / 2) h below
