-- The ids and numbers of a drill are texts and compact values.
use Rattle.std.proofs.Common.{◌<◌, ◌^◌, ◌+◌, inl, inr, ℕ, zero, suc, List, [], ◌∷◌, length, decimal, refl, subst, arith, lit<, IsUtf8}
use Rattle.std.specs.Str.{IsAscii}
use Rattle.std.proofs.lemmas.Bool.{cases_lt}
use Rattle.std.proofs.lemmas.Fmt.{decimal_digit}
use Rattle.std.proofs.lemmas.List.{get_or_past}
use Rattle.std.proofs.lemmas.Str.{IsUtf8-from_ascii}
use Rattle.json_text.specs.Characters.{quote}
use Rattle.json_text.specs.Value.{IsCompact}
use Rattle.json_text.proofs.CallerLemmas.{decimal_nests, quote-compact}
use Rattle.scene_json.proofs.CallerLemmas.{digit_of_decimal}
use Rattle.workload.specs.Texts.{numbered_id, id_text}

id-ascii : (number : ℕ) → number < 2 ^ 64 → IsAscii (numbered_id number)
id-ascii number small zero = lit< tt
id-ascii number small (suc i) = elim (cases_lt i (length (decimal number))) [
  | inl within ↦ let digit =
      digit_of_decimal (decimal number) number i small refl within in omega (arith, digit.0, digit.1)
  | inr past ↦ omega (arith, get_or_past (decimal number) i 0 past)
]

pub id-utf8 : (number : ℕ) → number < 2 ^ 64 → IsUtf8 (numbered_id number)
id-utf8 number small = IsUtf8-from_ascii (numbered_id number) (id-ascii number small)

pub id-compact : (number : ℕ) → number < 2 ^ 64 → IsCompact 0 (id_text number)
unfolding id_text
id-compact number small = quote-compact 0 (numbered_id number) (id-utf8 number small)

-- a word of letters
pub word-compact : (word : List ℕ) → IsUtf8 word → IsCompact 0 (quote word)
word-compact word is = quote-compact 0 word is

-- a digit
pub digit-compact : (digit : ℕ) → digit < 10 → IsCompact 0 ((48 + digit) ∷ [])
digit-compact digit small = subst (IsCompact 0) (decimal_digit digit small) (decimal_nests 0 digit (omega arith))
