-- Numbers that go on over a stretch.
use Rattle.std.proofs.Common.{◌≡◌, ℕ, ◌+◌, ◌<◌, ◌≤◌, true, List, [], ◌∷◌, ◌++◌, ◌&&◌, not, Some, None, option_and_then, drop, length, get_or, ◌⊎◌, inl, inr, refl, ap, arith}
use Rattle.std.specs.List.{AllByRecursion, prefix_len}
use Rattle.std.proofs.lemmas.Bool.Decides.{nat_tests}
use Rattle.json_text.specs.Characters.{is_digit}
use Rattle.json_text.specs.Value.{extends_number}
use Rattle.json_text.proofs.CallerLemmas.{passed_all}
use Rattle.json_reader.specs.inner.Machine.{Part, Minus, Zero, Whole, Dot, Fraction, Letter, Sign, Exponent, Bracket, Number, state, top, applied, is_complete, number_move_on, part_after, parts_after}
use Rattle.json_reader.specs.inner.Runs.{run}
use Rattle.json_reader.specs.inner.Writing.{stretch}
use Rattle.json_reader.proofs.Copying.{headed}
use Rattle.json_reader.proofs.Outcomes.{stretch_more}

-- after more bytes
pub parts_after-append : (part mid last : Part) (xs ys : List ℕ) → parts_after part xs ≡ Some mid
    → parts_after mid ys ≡ Some last → parts_after part (xs ++ ys) ≡ Some last
parts_after-append part mid last [] ys here more = let same : part ≡ mid = cc in rw same more
parts_after-append part mid last (x ∷ xs) ys here more =
    elim (part_after part x) as (λ o. option_and_then (λ p. parts_after p xs) o ≡ Some mid
    → option_and_then (λ p. parts_after p (xs ++ ys)) o ≡ Some last) [
      | None ↦ λ e. cc
      | Some p ↦ λ e. parts_after-append p mid last xs ys e more
    ] here

-- after a stretch and another one behind it
pub stretches-join : (part mid last : Part) (bytes : List ℕ) (at next end : ℕ) → at ≤ next → next ≤ end
    → parts_after part (stretch bytes at next) ≡ Some mid → parts_after mid (stretch bytes next end) ≡ Some last
    → parts_after part (stretch bytes at end) ≡ Some last
stretches-join part mid last bytes at next end low up here more =
    rw (stretch_more bytes at next low end up) (parts_after-append part mid last _ _ here more)

-- This part goes on with digits as it is.
abbrev pub TakesDigits : Part → Type 0
TakesDigits part = (b : ℕ) → is_digit b ≡ true → part_after part b ≡ Some part

pub takes-digits : (part : Part) → (part ≡ Whole) ⊎ ((part ≡ Fraction) ⊎ (part ≡ Exponent)) → TakesDigits part
takes-digits part (inl e) b is = rw (e, is) refl
takes-digits part (inr (inl e)) b is = rw (e, is) refl
takes-digits part (inr (inr e)) b is = rw (e, is) refl

digits-stay : (part : Part) → TakesDigits part → (xs : List ℕ) → AllByRecursion (λ b. is_digit b ≡ true) xs
    → parts_after part xs ≡ Some part
digits-stay part takes [] digits = refl
digits-stay part takes (x ∷ xs) digits = rw (takes x digits.0) (digits-stay part takes xs digits.1)

-- after the digits that stand at an offset
pub digits-pass : (part : Part) → TakesDigits part → (bytes : List ℕ) (at end : ℕ)
    → end ≡ at + prefix_len is_digit (drop at bytes) → parts_after part (stretch bytes at end) ≡ Some part
digits-pass part takes bytes at end is =
    digits-stay part takes (stretch bytes at end) (passed_all is_digit _ (λ b is. is) bytes at end is)

-- after a byte, and what stands behind it
pub byte-follows : (part mid last : Part) (bytes : List ℕ) (at next end : ℕ) → at < length bytes → next ≡ at + 1
    → next ≤ end → part_after part (get_or bytes at 0) ≡ Some mid → parts_after mid (stretch bytes next end) ≡ Some last
    → parts_after part (stretch bytes at end) ≡ Some last
byte-follows part mid last bytes at next end high is up first others =
    rw (headed bytes at end high (omega arith), first, ← is) others

-- after a point, a digit and those behind it
pub fraction-follows : (part : Part) (bytes : List ℕ) (at end : ℕ) → (part ≡ Zero) ⊎ (part ≡ Whole)
    → at + 2 ≤ length bytes → get_or bytes at 0 ≡ 46 → is_digit (get_or bytes (at + 1) 0) ≡ true → at + 2 ≤ end
    → end ≡ at + 2 + prefix_len is_digit (drop (at + 2) bytes)
    → parts_after part (stretch bytes at end) ≡ Some Fraction
fraction-follows part bytes at end begun high point digit up is =
    byte-follows part Dot Fraction bytes at (at + 1) end (omega arith) refl (omega arith) (dotted begun)
    (byte-follows Dot Fraction Fraction bytes (at + 1) (at + 2) end (omega arith) (omega arith) up (rw digit refl)
    (digits-pass Fraction (takes-digits Fraction (inr (inl refl))) bytes (at + 2) end is))
  where
    dotted : (part ≡ Zero) ⊎ (part ≡ Whole) → part_after part (get_or bytes at 0) ≡ Some Dot
    dotted (inl e) = rw (e, point) refl
    dotted (inr e) = rw (e, point) refl

-- a byte that a number goes on with
part-extends : (part : Part) (b : ℕ) (next : Part) → part_after part b ≡ Some next → extends_number b ≡ true
part-extends Minus b next e = grind (arith, nat_tests)
part-extends Zero b next e = grind (arith, nat_tests)
part-extends Whole b next e = grind (arith, nat_tests)
part-extends Dot b next e = grind (arith, nat_tests)
part-extends Fraction b next e = grind (arith, nat_tests)
part-extends Letter b next e = grind (arith, nat_tests)
part-extends Sign b next e = grind (arith, nat_tests)
part-extends Exponent b next e = grind (arith, nat_tests)

-- the machine over such a stretch
pub number-runs : (part last : Part) (st : List Bracket) (xs : List ℕ) → parts_after part xs ≡ Some last
    → run 128 (state (Number part) st) xs ≡ state (Number last) st
number-runs part last st [] e = let same : part ≡ last = cc in ap (λ p. state (Number p) st) same
number-runs part last st (b ∷ xs) e =
    elim (part_after part b) as (λ o. option_and_then (λ p. parts_after p xs) o ≡ Some last
    → run 128 (applied 128 st b (number_move_on o (is_complete part && not (extends_number b)) (top st) b)) xs
    ≡ state (Number last) st) [
      | None ↦ λ h. cc
      | Some p ↦ λ h. number-runs p last st xs h
    ] e

pub number-extends : (part last : Part) (xs : List ℕ) → parts_after part xs ≡ Some last
    → AllByRecursion (λ b. extends_number b ≡ true) xs
number-extends part last [] e = tt
number-extends part last (b ∷ xs) e =
    elim (part_after part b) as (λ o. part_after part b ≡ o → option_and_then (λ p. parts_after p xs) o ≡ Some last
    → AllByRecursion (λ b. extends_number b ≡ true) (b ∷ xs)) [
      | None ↦ λ is h. cc
      | Some p ↦ λ is h. (part-extends part b p is, number-extends p last xs h)
    ] refl e
