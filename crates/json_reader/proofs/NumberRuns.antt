-- Numbers: what the machine runs over is what the grammar spells.
use Rattle.std.proofs.Common.{◌≡◌, ◌⊎◌, ◌==◌, ◌||◌, ℕ, List, [], ◌∷◌, ◌++◌, Bool, true, false, cond, Option, Some, None, refl, ap, inl, inr, arith, append-nil, eqb-true}
use Rattle.std.specs.List.{list_all}
use Rattle.std.proofs.lemmas.Bool.{and_from, eqb-false, false≢true, cond_both}
use Rattle.json_text.specs.Characters.{is_digit}
use Rattle.json_text.specs.Tree.{AreDigits, IsSign, IsIntegerPart, IsFraction, IsExponent, IsNumber}
use Rattle.json_text.specs.Value.{extends_number}
use Rattle.json_reader.specs.inner.Machine.{Part, Minus, Zero, Whole, Dot, Fraction, Letter, Sign, Exponent, part_begun, after_fraction, after_whole, part_after, is_complete}
use Rattle.json_text.proofs.CallerLemmas.{number}

abbrev pub on_part : (Part → Bool) → Option Part → Bool
on_part test None = false
on_part test (Some part) = test part

-- The rest of a number after this part is spelled so.
abbrev pub ends : List ℕ → Part → Bool
ends [] part = is_complete part
ends (b ∷ s) part = on_part (ends s) (part_after part b)

-- ---- what is spelled is run over
-- the part goes on with a digit as this one
abbrev Takes : Part → Part → Type 0
Takes part next = (b : ℕ) → is_digit b ≡ true → part_after part b ≡ Some next

digits_end : (part : Part) → Takes part part → (digits rest : List ℕ) → list_all is_digit digits ≡ true
    → ends rest part ≡ true → ends (digits ++ rest) part ≡ true
digits_end part more [] rest all is = is
digits_end part more (b ∷ s) rest all is = grind (arith, more b, digits_end part more s rest)

some_end : (part next : Part) → Takes part next → Takes next next → (digits rest : List ℕ) → AreDigits digits
    → ends rest next ≡ true → ends (digits ++ rest) part ≡ true
some_end part next first more digits rest (b, s, e, all) is = grind (arith, first b, digits_end next more s rest)

exponent_digits : (part : Part) → Takes part Exponent → (digits : List ℕ) → AreDigits digits → ends digits part ≡ true
exponent_digits part first digits are =
    rw append-nil at (some_end part Exponent first (λ b d. rw d refl) digits [] are refl)

exponent_ends : (part : Part) → is_complete part ≡ true → part_after part 101 ≡ Some Letter
    → part_after part 69 ≡ Some Letter
    → (s : List ℕ) → IsExponent s → ends s part ≡ true
exponent_ends part complete small large s scaled =
    grind (arith, exponent_digits Letter (λ b d. grind arith), exponent_digits Sign (λ b d. rw d refl))

-- the fraction and the exponent after a whole part
point_ends : (part : Part) → is_complete part ≡ true → part_after part 46 ≡ Some Dot → part_after part 101 ≡ Some Letter
    → part_after part 69 ≡ Some Letter
    → (fraction exponent : List ℕ) → IsFraction fraction → IsExponent exponent → ends (fraction ++ exponent) part ≡ true
point_ends part complete dot small large fraction exponent parted scaled =
    let further = exponent_ends Fraction refl refl refl exponent scaled in
    grind (
      arith,
      exponent_ends part complete small large exponent scaled,
      some_end Dot Fraction (λ b d. rw d refl) (λ b d. rw d refl),
      further,
    )

-- the first byte begins a part, and the others end the number
abbrev pub IsRun : List ℕ → Type 0
IsRun [] = ⊥
IsRun (b ∷ s) = on_part (ends s) (part_begun b) ≡ true

counted_ends : (whole fraction exponent : List ℕ) → IsIntegerPart whole → IsFraction fraction → IsExponent exponent
    → ends (whole ++ (fraction ++ exponent)) Minus ≡ true
counted_ends whole fraction exponent (inl zero) parted scaled =
    rw zero (point_ends Zero refl refl refl refl fraction exponent parted scaled)
counted_ends whole fraction exponent (inr (b, s, e, other, all)) parted scaled =
    let further = point_ends Whole refl refl refl refl fraction exponent parted scaled in
    grind (arith, digits_end Whole (λ b d. rw d refl) s (fraction ++ exponent), further)

pub number_run : (s : List ℕ) → IsNumber s → IsRun s
number_run s n =
    rw n.spells (grind (arith, n.signed, counted_ends n.whole n.fraction n.exponent n.counted n.parted n.scaled))

-- ---- the bytes of a number
-- what does not go on with a number ends it
pub ended_part : (part : Part) (b : ℕ) → extends_number b ≡ false → part_after part b ≡ None
ended_part part b e = grind arith

-- the part that a number goes on with
pub some_part : (s : List ℕ) (o : Option Part) → on_part (ends s) o ≡ true → (part : Part) × (o ≡ Some part)
    × (ends s part ≡ true)
some_part s None e = absurd (false≢true e)
some_part s (Some part) e = (part, refl, e)

-- ---- what is run over is spelled
abbrev Goes : List ℕ → Option Part → Type 0
Goes s part = on_part (ends s) part ≡ true

stuck : {A : Type 0} → false ≡ true → A
stuck e = absurd (false≢true e)

-- digits, and then P
abbrev Counted : (List ℕ → Type 0) → List ℕ → Type 0
Counted P s = (digits rest : List ℕ) × (s ≡ digits ++ rest) × (list_all is_digit digits ≡ true) × P rest

digits_ended : (part : Part) (after : ℕ → Option Part) (P : List ℕ → Type 0)
    → ((b : ℕ) → part_after part b ≡ cond (is_digit b) (Some part) (after b)) → P []
    → ((b : ℕ) (s : List ℕ) → Goes s (after b) → P (b ∷ s)) → (s : List ℕ) → ends s part ≡ true → Counted P s
digits_ended part after P goes none some [] run = ([], [], refl, refl, none)
digits_ended part after P goes none some (b ∷ s) run =
    cond_both (is_digit b) _ _ (λ o. Goes s o → Counted P (b ∷ s))
    (λ d more. let r = digits_ended part after P goes none some s more in
    (b ∷ r.0, r.1, ap (λ x. b ∷ x) r.2, and_from (is_digit b) (list_all is_digit r.0) d r.3, r.4))
    (λ _ more. ([], b ∷ s, refl, refl, some b s more)) (rw (goes b) at run)

exponent_digits_ended : (s : List ℕ) → ends s Exponent ≡ true → list_all is_digit s ≡ true
exponent_digits_ended [] run = refl
exponent_digits_ended (b ∷ s) run = grind (arith, exponent_digits_ended s)

sign_ended : (s : List ℕ) → ends s Sign ≡ true → AreDigits s
sign_ended [] run = stuck run
sign_ended (b ∷ s) run = (b, s, refl, grind (arith, exponent_digits_ended s))

abbrev Scale : List ℕ → Type 0
Scale s = (sign digits : List ℕ) × (s ≡ sign ++ digits) × ((sign ≡ []) ⊎ ((sign ≡ 43 ∷ []) ⊎ (sign ≡ 45 ∷ [])))
    × AreDigits digits

letter_ended : (s : List ℕ) → ends s Letter ≡ true → Scale s
letter_ended [] = stuck
letter_ended (b ∷ s) =
    cond_both (b == 43 || b == 45) _ _ (λ o. Goes s o → Scale (b ∷ s))
    (λ e run. (b ∷ [], s, refl, grind arith, sign_ended s run))
    (λ _ run. ([], b ∷ s, refl, inl refl, sign_ended (b ∷ s) run))

exponent_ended : (b : ℕ) (s : List ℕ) → Goes s (after_fraction b) → IsExponent (b ∷ s)
exponent_ended b s = cond_both (b == 101 || b == 69) _ _ (λ o. Goes s o → IsExponent (b ∷ s)) (λ e run.
    let scale = letter_ended s run in
    inr (b, scale.0, scale.1, ap (λ r. b ∷ r) scale.2, grind arith, scale.3, scale.4)) (λ _. stuck)

abbrev Pointed : List ℕ → Type 0
Pointed s = (fraction exponent : List ℕ) × (s ≡ fraction ++ exponent) × IsFraction fraction × IsExponent exponent

dot_ended : (s : List ℕ) → ends s Dot ≡ true → Pointed (46 ∷ s)
dot_ended [] = stuck
dot_ended (b ∷ s) = cond_both (is_digit b) _ _ (λ o. Goes s o → Pointed (46 ∷ b ∷ s)) (λ d run.
    let r = digits_ended Fraction after_fraction IsExponent (λ b. refl) (inl refl) exponent_ended s run in (
      46 ∷ b ∷ r.0,
      r.1,
      ap (λ x. 46 ∷ b ∷ x) r.2,
      inr (b ∷ r.0, refl, (b, r.0, refl, and_from (is_digit b) (list_all is_digit r.0) d r.3)),
      r.4,
    )) (λ _. stuck)

point_ended : (b : ℕ) (s : List ℕ) → Goes s (after_whole b) → Pointed (b ∷ s)
point_ended b s =
    cond_both (b == 46) _ _ (λ o. Goes s o → Pointed (b ∷ s)) (λ e run. rw (eqb-true b 46 e) (dot_ended s run))
    (λ _ run. ([], b ∷ s, refl, inl refl, exponent_ended b s run))

zero_ended : (s : List ℕ) → ends s Zero ≡ true → Pointed s
zero_ended [] run = ([], [], refl, inl refl, inl refl)
zero_ended (b ∷ s) run = point_ended b s run

counted_ended : (sign : List ℕ) (b : ℕ) (s : List ℕ) → IsSign sign → Goes s (part_after Minus b)
    → IsNumber (sign ++ b ∷ s)
counted_ended sign b s signed =
    let Number = λ (o : Option Part). Goes s o → IsNumber (sign ++ b ∷ s) in
    cond_both (b == 48) _ _ Number (λ zero run.
    let r = zero_ended s run in
    rw r.2 (number sign (b ∷ []) r.0 r.1 signed (inl (ap (λ x. x ∷ []) (eqb-true b 48 zero))) r.3 r.4)) (λ other.
    cond_both (is_digit b) _ _ Number (λ d run.
    let r = digits_ended Whole after_whole Pointed (λ b. refl) ([], [], refl, inl refl, inl refl) point_ended s run in
    let p = r.4 in
    let whole : IsIntegerPart (b ∷ r.0) =
    inr (b, r.0, refl, eqb-false b 48 other, and_from (is_digit b) (list_all is_digit r.0) d r.3) in
    rw (r.2, p.2) (number sign (b ∷ r.0) p.0 p.1 signed whole p.3 p.4)) (λ _. stuck))

pub run_number : (b : ℕ) (s : List ℕ) → on_part (ends s) (part_begun b) ≡ true → IsNumber (b ∷ s)
run_number b s = cond_both (b == 45) _ _ (λ o. Goes s o
    → IsNumber (b ∷ s)) (λ e run. rw (eqb-true b 45 e) (minus_ended s run)) (λ _. counted_ended [] b s (inl refl))
  where
    minus_ended : (s : List ℕ) → ends s Minus ≡ true → IsNumber (45 ∷ s)
    minus_ended [] = stuck
    minus_ended (b ∷ s) = counted_ended (45 ∷ []) b s (inr refl)
