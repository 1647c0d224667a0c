-- Digits, and the number that they are in decimal.
use Rattle.std.proofs.Common.{◌≡◌, ℕ, ◌+◌, ◌*◌, ◌-◌, ◌<◌, ◌≤◌, ◌^◌, List, length, get_or, take, take_all, decimal, sym, ◌∙◌, ap, arith}
use Rattle.std.specs.Int.{IsInRange}
use Rattle.std.specs.Str.Parse.{AllDigits, digits_value}
use Rattle.std.proofs.lemmas.Str.{digit_value_digit}
use Rattle.std.proofs.lemmas.Str.Parse.{IsNumeralModel, numerals_by_value, tells_digits, digit_at, digits_value-take-le}
use Rattle.std.proofs.lemmas.Int.Digits.{digits_value_more, digits_more}
use Rattle.std.proofs.lemmas.Fmt.{decimal-digits_value, decimal_is_IsNumeral, decimal_digit, first_decimal}

-- the words of `parse` are their own model
own : IsNumeralModel (AllDigits 10) (digits_value 10)
own = numerals_by_value (AllDigits 10) tells_digits

-- digits without a leading zero are what `decimal` writes
pub decimal_of_digits : (ds : List ℕ) (i n : ℕ) → length ds ≤ i → AllDigits 10 (take i ds) → 0 < length ds
    → (get_or ds 0 0 ≡ 48 → length ds ≡ 1) → digits_value 10 (take i ds) ≡ n → n ≤ 9007199254740991 → ds ≡ decimal n
decimal_of_digits ds i n past digits some plain is small =
    grind (arith, take_all i ds past, decimal-digits_value own ds)

-- one more digit
pub value_more : (ds : List ℕ) (i n : ℕ) → i < length ds → IsInRange 48 57 (get_or ds i 0)
    → digits_value 10 (take i ds) ≡ n → digits_value 10 (take (i + 1) ds) ≡ n * 10 + (get_or ds i 0 - 48)
value_more ds i n within digit is =
    omega (arith, digits_value_more 10 ds i within, digit_value_digit (get_or ds i 0) digit)

pub digits_step : (ds : List ℕ) (i : ℕ) → i < length ds → IsInRange 48 57 (get_or ds i 0) → AllDigits 10 (take i ds)
    → AllDigits 10 (take (i + 1) ds)
digits_step ds i within digit digits =
    digits_more 10 ds i within digits (omega (arith, digit_value_digit (get_or ds i 0) digit))

-- what `decimal` writes are digits, and each stretch at its front is at most the number
pub digits_of_decimal : (ds : List ℕ) (n : ℕ) → n < 2 ^ 64 → ds ≡ decimal n → (0 < length ds) × AllDigits 10 ds
digits_of_decimal ds n small is = rw is (decimal_is_IsNumeral n small).0

pub digit_of_decimal : (ds : List ℕ) (n i : ℕ) → n < 2 ^ 64 → ds ≡ decimal n → i < length ds
    → IsInRange 48 57 (get_or ds i 0)
digit_of_decimal ds n i small is within = digit_at ds i (digits_of_decimal ds n small is).1 within

pub value_of_decimal : (ds : List ℕ) (n : ℕ) → n < 2 ^ 64 → ds ≡ decimal n → digits_value 10 ds ≡ n
value_of_decimal ds n small is = ap (digits_value 10) is ∙ (decimal_is_IsNumeral n small).1

pub only_decimal : (ds : List ℕ) (i whole n : ℕ) → length ds ≤ i → digits_value 10 (take i ds) ≡ whole
    → n ≤ 9007199254740991 → ds ≡ decimal n → whole ≡ n
only_decimal ds i whole n past is small e =
    sym is ∙ ap (digits_value 10) (take_all i ds past) ∙ value_of_decimal ds n (omega arith) e

pub front_of_decimal : (ds : List ℕ) (n i : ℕ) → n < 2 ^ 64 → ds ≡ decimal n → digits_value 10 (take i ds) ≤ n
front_of_decimal ds n i small is =
    omega (arith, digits_value-take-le 10 ds i (omega arith), value_of_decimal ds n small is)

-- only the decimal of 0 begins with a zero
pub first_of_decimal : (ds : List ℕ) (n : ℕ) → n < 2 ^ 64 → ds ≡ decimal n → 1 < length ds → get_or ds 0 0 ≡ 48 → ⊥
first_of_decimal ds n small is several first = grind (arith, is, decimal_digit 0, first_decimal n)

-- what is known of digits that are read one by one
pub ruleset decimal_steps = (
  decimal_of_digits,
  value_more,
  digits_step,
  digits_of_decimal,
  digit_of_decimal,
  value_of_decimal,
  only_decimal,
  front_of_decimal,
  first_of_decimal,
)
