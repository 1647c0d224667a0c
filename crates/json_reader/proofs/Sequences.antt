-- Sequences of UTF-8: what the machine runs over is the bytes of a character.
use Rattle.std.proofs.Common.{◌≡◌, ℕ, ◌+◌, ◌-◌, ◌*◌, ◌/◌, ◌<◌, ◌≤◌, List, [], ◌∷◌, true, Option, Some, None, refl, inl, inr, arith, nat_le, ◌&&◌}
use Rattle.std.specs.Char.{encode_utf8, IsScalar}
use Rattle.std.proofs.lemmas.Bool.Decides.{nat_tests}
use Rattle.std.proofs.lemmas.Bool.{cases_lt}
use lib.Utf8.{scalar, low_scalar, next}
use Rattle.json_reader.specs.inner.Machine.{Tail, One, Two, tail_led, tail_fits, tail_after}

abbrev pub on_tail : (Tail → Type 0) → Type 0 → Option Tail → Type 0
on_tail goes over None = over
on_tail goes over (Some tail) = goes tail

-- these bytes are what must still come of a sequence
abbrev pub Completes : List ℕ → Tail → Type 0
Completes [] tail = ⊥
Completes (b ∷ s) tail = (tail_fits tail b ≡ true) × on_tail (Completes s) (s ≡ []) (tail_after tail)

-- ---- the bytes of a character
encode_two : (c : ℕ) → 128 ≤ c → c < 2048 → encode_utf8 c ≡ (192 + c / 64) ∷ next c ∷ []
unfolding encode_utf8
encode_two c l h = grind (arith, nat_tests)

encode_three : (c : ℕ) → 2048 ≤ c → c < 65536 → encode_utf8 c ≡ (224 + c / 4096) ∷ next (c / 64) ∷ next c ∷ []
unfolding encode_utf8
encode_three c l h = grind (arith, nat_tests)

encode_four : (c : ℕ) → 65536 ≤ c → encode_utf8 c ≡ (240 + c / 262144) ∷ next (c / 4096) ∷ next (c / 64) ∷ next c ∷ []
unfolding encode_utf8
encode_four c l = grind (arith, nat_tests)

pub fitted : (low high b : ℕ) → (nat_le low b && nat_le b high) ≡ true → (low ≤ b) × (b ≤ high)
fitted low high b e = grind (arith, nat_tests)

-- the bytes of a character from 128 on begin a sequence and complete it
pub record IsLed (c : ℕ) : Type 0 where
  pub first : ℕ
  pub more : List ℕ
  pub tail : Tail
  pub spells : encode_utf8 c ≡ first ∷ more
  pub led : tail_led first ≡ Some tail
  pub completes : Completes more tail

is_led : (c first : ℕ) (more : List ℕ) (tail : Tail) → encode_utf8 c ≡ first ∷ more → tail_led first ≡ Some tail
    → Completes more tail → IsLed c
is_led c first more tail spells led completes =
    record { first = first; more = more; tail = tail; spells = spells; led = led; completes = completes }

follow : (x : ℕ) → tail_fits One (next x) ≡ true
follow x = grind (arith, nat_tests)

three_led : (c : ℕ) → IsScalar c → 2048 ≤ c → c < 65536 → IsLed c
three_led c scalar low high = by (tail_led (224 + c / 4096)) refl
  where
    by : (o : Option Tail) → tail_led (224 + c / 4096) ≡ o → IsLed c
    by (Some tail) e = is_led c _ _ tail (encode_three c low high) e (grind (arith, nat_tests, follow))
    by None e = absurd (grind arith)

four_led : (c : ℕ) → IsScalar c → 65536 ≤ c → IsLed c
four_led c scalar low = by (tail_led (240 + c / 262144)) refl
  where
    by : (o : Option Tail) → tail_led (240 + c / 262144) ≡ o → IsLed c
    by (Some tail) e = is_led c _ _ tail (encode_four c low) e (grind (arith, nat_tests, follow))
    by None e = absurd (grind arith)

pub char_led : (c : ℕ) → IsScalar c → 128 ≤ c → IsLed c
char_led c scalar big = elim (cases_lt c 2048) [
  | inl two ↦ is_led c _ _ One (encode_two c big two) (grind arith) (follow c, refl)
  | inr more ↦ elim (cases_lt c 65536) [
    | inl three ↦ three_led c scalar more three
    | inr four ↦ four_led c scalar four
  ]
]

-- ---- and such bytes are those of a character
abbrev pub IsChar : List ℕ → Type 0
IsChar bytes = (c : ℕ) × IsScalar c × (128 ≤ c) × (encode_utf8 c ≡ bytes)

two_char : (b x : ℕ) (s : List ℕ) → 194 ≤ b → b ≤ 223 → 128 ≤ x → x ≤ 191 → s ≡ [] → IsChar (b ∷ x ∷ s)
two_char b x s bl bh xl xh none =
    let c : ℕ = (b - 192) * 64 + (x - 128) in
    rw none (c, low_scalar c (omega arith), omega arith, grind (arith, encode_two c (omega arith) (omega arith)))

three_char : (b x : ℕ) (s : List ℕ) → 224 ≤ b → b ≤ 239 → 128 ≤ x → x ≤ 191 → (b ≡ 224 → 160 ≤ x) → (b ≡ 237 → x < 160)
    → Completes s One → IsChar (b ∷ x ∷ s)
three_char b x [] bl bh xl xh long low h = absurd h
three_char b x (y ∷ s) bl bh xl xh long low h =
    let f = fitted 128 191 y h.0 in
    let c : ℕ = (b - 224) * 4096 + (x - 128) * 64 + (y - 128) in
    let least : 2048 ≤ c = grind arith in
    rw h.1 (c, grind arith, omega arith, grind (arith, encode_three c least (omega arith)))

four_char : (b x : ℕ) (s : List ℕ) → 240 ≤ b → b ≤ 244 → 128 ≤ x → x ≤ 191 → (b ≡ 240 → 144 ≤ x) → (b ≡ 244 → x < 144)
    → Completes s Two → IsChar (b ∷ x ∷ s)
four_char b x (y ∷ z ∷ s) bl bh xl xh long low h =
    let f = fitted 128 191 y h.0 in
    let g = fitted 128 191 z h.1.0 in
    let c : ℕ = (b - 240) * 262144 + (x - 128) * 4096 + (y - 128) * 64 + (z - 128) in
    let least : 65536 ≤ c = grind arith in
    rw h.1.1 (c, grind arith, omega arith, grind (arith, encode_four c least))
four_char b x s bl bh xl xh long low h = absurd (grind arith)

pub led_char : (b : ℕ) (s : List ℕ) (tail : Tail) → tail_led b ≡ Some tail → Completes s tail → IsChar (b ∷ s)
led_char b [] tail e h = absurd h
led_char b (x ∷ s) tail e h = grind (arith, nat_tests, two_char b x s, three_char b x s, four_char b x s)
