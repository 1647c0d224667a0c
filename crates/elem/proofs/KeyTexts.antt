-- Keys are texts: their bytes are letters and digits.
use Rattle.std.proofs.Common.{◌≡◌, ℕ, zero, suc, ◌<◌, true, List, [], ◌∷◌, ◌++◌, flat_map, refl, arith, IsUtf8}
use Rattle.std.specs.Char.{is_ascii_alphabetic}
use Rattle.std.specs.List.{list_all}
use Rattle.std.specs.Str.{IsAscii}
use Rattle.std.proofs.lemmas.Bool.{and_parts}
use Rattle.std.proofs.lemmas.Bool.Decides.{nat_tests}
use Rattle.std.proofs.lemmas.Str.{IsUtf8-from_ascii}
use Rattle.json_text.specs.Characters.{quote, quoted_byte}
use Rattle.frac_keys.specs.Digits.{is_key_digit}
use Rattle.frac_keys.specs.Keys.{is_key}

letter_small : (b : ℕ) → is_ascii_alphabetic b ≡ true → b < 128
letter_small b h = grind (arith, nat_tests)

digit_small : (b : ℕ) → is_key_digit b ≡ true → b < 128
digit_small b h = grind (arith, nat_tests)

digits_ascii : (bs : List ℕ) → list_all is_key_digit bs ≡ true → IsAscii bs
digits_ascii [] h i = omega arith
digits_ascii (b ∷ bs) h zero = digit_small b (and_parts _ _ h).0
digits_ascii (b ∷ bs) h (suc i) = digits_ascii bs (and_parts _ _ h).1 i

key_ascii : (b : ℕ) (bs : List ℕ) → is_ascii_alphabetic b ≡ true → list_all is_key_digit bs ≡ true → IsAscii (b ∷ bs)
key_ascii b bs letter digits zero = letter_small b letter
key_ascii b bs letter digits (suc i) = digits_ascii bs digits i

pub IsUtf8-key : (key : List ℕ) → is_key key ≡ true → IsUtf8 key
unfolding is_key
IsUtf8-key [] h = cc
IsUtf8-key (b ∷ bs) h =
    let parts = and_parts _ _ (and_parts _ _ (and_parts _ _ h).0).0 in
    IsUtf8-from_ascii (b ∷ bs) (key_ascii b bs (and_parts _ _ parts.0).0 parts.1)

-- A key's quote has its bytes as they are.
digit_plain : (b : ℕ) → is_key_digit b ≡ true → quoted_byte b ≡ b ∷ []
digit_plain b h = grind (arith, nat_tests)

letter_plain : (b : ℕ) → is_ascii_alphabetic b ≡ true → quoted_byte b ≡ b ∷ []
letter_plain b h = grind (arith, nat_tests)

digits_plain : (bs : List ℕ) → list_all is_key_digit bs ≡ true → flat_map quoted_byte bs ≡ bs
digits_plain [] h = refl
digits_plain (b ∷ bs) h = let parts = and_parts _ _ h in rw (digit_plain b parts.0, digits_plain bs parts.1) refl

pub quote-key : (key : List ℕ) → is_key key ≡ true → quote key ≡ 34 ∷ (key ++ 34 ∷ [])
unfolding is_key quote
quote-key [] h = refl
quote-key (b ∷ bs) h =
    let parts = and_parts _ _ (and_parts _ _ (and_parts _ _ h).0).0 in
    rw (letter_plain b (and_parts _ _ parts.0).0, digits_plain bs parts.1) refl
