-- The number that a word is.
use Rattle.std.proofs.Common.{◌≡◌, ℕ, ◌≤◌, ◌<◌, ◌^◌, true, List, ◌&&◌, Some, None, nat_le, bytes_eq, decimal, inl, inr, refl, ap, ◌∙◌, if◌then◌else◌, arith}
use Rattle.std.specs.Str.Parse.{digits_value}
use Rattle.std.proofs.lemmas.Bool.{cases_Bool, and_parts}
use Rattle.std.proofs.lemmas.Bool.Decides.{nat_tests}
use Rattle.std.proofs.lemmas.Fmt.{decimal_is_IsNumeral}
use Rattle.json_text.proofs.CallerLemmas.{bytes_eq-true, bytes_eq-same}
use Rattle.commands.specs.Services.{is_number_within, number_within}

abbrev greatest : ℕ
greatest = 9007199254740991

below : (n : ℕ) → n ≤ greatest → n < 2 ^ 64
below n h = omega arith

value-of : (n : ℕ) → n ≤ greatest → digits_value 10 (decimal n) ≡ n
value-of n h = (decimal_is_IsNumeral n (below n h)).1

-- a word that is the number's decimal is a number exactly if that is within the bounds
pub number-found : (least most : ℕ) (word : List ℕ) (n : ℕ) → n ≤ greatest → word ≡ decimal n
    → number_within least most word ≡ (if nat_le least n && nat_le n most then Some n else None)
number-found least most word n small is =
    let value : digits_value 10 word ≡ n = ap (digits_value 10) is ∙ value-of n small in
    let own : bytes_eq word (decimal n) ≡ true = ap (λ w. bytes_eq w (decimal n)) is ∙ bytes_eq-same (decimal n) in
    rw (value, own) refl

-- a word that is no number's decimal is none
pub number-none : (least most : ℕ) (word : List ℕ) → most ≤ greatest → ((n : ℕ) → n ≤ greatest → word ≡ decimal n → ⊥)
    → number_within least most word ≡ None
number-none least most word small none = elim (cases_Bool (is_number_within least most word)) [
  | inr f ↦ rw f refl
  | inl t ↦
      let parts = and_parts (bytes_eq word (decimal (digits_value 10 word))) _ t in
      let bounds = and_parts (nat_le least (digits_value 10 word)) _ parts.1 in
      let high : nat_le (digits_value 10 word) most ≡ true = bounds.1 in
      let value : digits_value 10 word ≤ greatest = grind (arith, nat_tests) in
      absurd (none (digits_value 10 word) value (bytes_eq-true word (decimal (digits_value 10 word)) parts.0))
]
