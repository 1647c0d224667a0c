-- The midpoint of two fractions is a fraction strictly between them.
use Rattle.std.proofs.Common.{◌≡◌, ℕ, ◌<◌, ◌≤◌, ◌-◌, true, false, cond, ◌⊎◌, List, [], ◌∷◌, ◌++◌, eqb, ltb, inl, inr, refl, sym, subst, lit<, le_of_lt, arith}
use Rattle.std.specs.List.{list_all}
use Rattle.std.proofs.lemmas.Bool.{and_parts, and_from, cond_both, eqb-true, eqb-false, ltb-true, cases_eq}
use Rattle.std.proofs.lemmas.Bool.Decides.{nat_tests}
use Rattle.frac_keys.specs.Digits.{is_key_digit, digit_value, digit_byte, middle_digit}
use Rattle.frac_keys.specs.Keys.{ends_in_zero}
use Rattle.frac_keys.specs.Between.{first_digit, later_digits, midpoint_above, midpoint_beside, midpoint}
use Rattle.frac_keys.proofs.DigitLaws.{is_key_digit-range, digit_value-lt, middle_digit-above, middle_digit-below}
use Rattle.frac_keys.proofs.OrderLaws.{IsLess, ended, parted, later}

-- A fraction that isn't empty: digits, the last of which isn't `0`.
pub data IsPositive : List ℕ → Type 0 where
  last : {d : ℕ} → is_key_digit d ≡ true → 48 < d → IsPositive (d ∷ [])
  more : {d : ℕ} {ds : List ℕ} → is_key_digit d ≡ true → IsPositive ds → IsPositive (d ∷ ds)

above_zero : (d : ℕ) → is_key_digit d ≡ true → (d ≡ 48 → ⊥) → 48 < d
above_zero d h ne = grind (arith, is_key_digit-range d h)

pub IsPositive-from : (d : ℕ) (ds : List ℕ) → list_all is_key_digit (d ∷ ds) ≡ true → ends_in_zero (d ∷ ds) ≡ false
    → IsPositive (d ∷ ds)
IsPositive-from d [] h z =
    let digit : is_key_digit d ≡ true = (and_parts _ _ h).0 in last digit (above_zero d digit (eqb-false d 48 z))
IsPositive-from d (e ∷ ds) h z =
    let p = and_parts (is_key_digit d) (list_all is_key_digit (e ∷ ds)) h in more p.0 (IsPositive-from e ds p.1 z)

pub IsPositive-digits : {ds : List ℕ} → IsPositive ds → list_all is_key_digit ds ≡ true
IsPositive-digits (last h l) = and_from _ _ h refl
IsPositive-digits (more h p) = and_from _ _ h (IsPositive-digits p)

not_zero : (d : ℕ) → 48 < d → eqb d 48 ≡ false
not_zero d l = grind (arith, nat_tests)

-- whatever stands before them, such digits don't end in `0`
pub ends_in_zero-positive : (i : List ℕ) {ds : List ℕ} → IsPositive ds → ends_in_zero (i ++ ds) ≡ false
ends_in_zero-positive [] (last {d} h l) = not_zero d l
ends_in_zero-positive [] (more h (last k l)) = ends_in_zero-positive [] (last k l)
ends_in_zero-positive [] (more h (more k p)) = ends_in_zero-positive [] (more k p)
ends_in_zero-positive (x ∷ []) (last h l) = ends_in_zero-positive [] (last h l)
ends_in_zero-positive (x ∷ []) (more h p) = ends_in_zero-positive [] (more h p)
ends_in_zero-positive (x ∷ y ∷ i) p = ends_in_zero-positive (y ∷ i) p

-- A digit between `b` and `high`, alone.
pub middle-positive : (b high : ℕ) → is_key_digit b ≡ true → ltb 1 (high - digit_value b) ≡ true → high ≤ 62
    → IsPositive (middle_digit (digit_value b) high ∷ [])
middle-positive b high h far most =
    let m = middle_digit-above b high h (ltb-true 1 (high - digit_value b) far) most in
    last m.0 (grind (arith, is_key_digit-range b h, m.1))

pub half-positive : IsPositive (middle_digit 0 62 ∷ [])
unfolding digit_byte
half-positive = last refl (lit< tt)

-- what `midpoint_above` promises of its result
pub record IsAbove (a m : List ℕ) : Type 0 where
  pub positive : IsPositive m
  pub above : IsLess a m

pub midpoint_above-law : (a : List ℕ) → list_all is_key_digit a ≡ true → IsAbove a (midpoint_above a)
unfolding midpoint_above
midpoint_above-law [] h = record { positive = half-positive; above = ended }
midpoint_above-law (d ∷ ds) h =
    let p = and_parts (is_key_digit d) (list_all is_key_digit ds) h in
    let rest = midpoint_above-law ds p.1 in
    cond_both (ltb 1 (62 - digit_value d)) (middle_digit (digit_value d) 62 ∷ []) (d ∷ midpoint_above ds)
    (IsAbove (d ∷ ds))
    (λ far. record {
      positive = middle-positive d 62 p.0 far (omega arith);
      above = parted (middle_digit-above d 62 p.0 (ltb-true 1 (62 - digit_value d) far) (omega arith)).1;
    })
    (λ _. record { positive = more p.0 rest.positive; above = later rest.above })

-- what `midpoint` promises of its result
pub record IsMiddle (a b m : List ℕ) : Type 0 where
  pub positive : IsPositive m
  pub above : IsLess a m
  pub below : IsLess m b

first-digit : (a : List ℕ) → list_all is_key_digit a ≡ true → is_key_digit (first_digit a) ≡ true
first-digit [] h = refl
first-digit (x ∷ xs) h = (and_parts (is_key_digit x) (list_all is_key_digit xs) h).0

later-digits : (a : List ℕ) → list_all is_key_digit a ≡ true → list_all is_key_digit (later_digits a) ≡ true
later-digits [] h = refl
later-digits (x ∷ xs) h = (and_parts (is_key_digit x) (list_all is_key_digit xs) h).1

-- the first digits are in order, or they are one and the rests are
abbrev Heads : List ℕ → ℕ → List ℕ → Type 0
Heads a y ys = (first_digit a < y) ⊎ ((first_digit a ≡ y) × IsLess (later_digits a) ys)

zero_or_above : (d : ℕ) {ds : List ℕ} → is_key_digit d ≡ true → IsLess [] ds → Heads [] d ds
zero_or_above d h l = elim (cases_eq 48 d) [ inl e ↦ inr (e, l) | inr ne ↦ inl (above_zero d h (λ e. ne (sym e))) ]

heads : (a : List ℕ) {y : ℕ} {ys : List ℕ} → IsLess a (y ∷ ys) → IsPositive (y ∷ ys) → Heads a y ys
heads [] ended (last h l) = inl l
heads [] ended (more {d} h (last k l)) = zero_or_above d h ended
heads [] ended (more {d} h (more k p)) = zero_or_above d h ended
heads (x ∷ xs) (parted l) p = inl l
heads (x ∷ xs) (later r) p = inr (refl, r)

-- the same the other way, from what stands above
below-parted : (a : List ℕ) (y : ℕ) (m : List ℕ) → first_digit a < y → IsLess a (y ∷ m)
below-parted [] y m l = ended
below-parted (x ∷ xs) y m l = parted l

below-later : (a m : List ℕ) → IsLess (later_digits a) m → IsLess a (first_digit a ∷ m)
below-later [] m l = ended
below-later (x ∷ xs) m l = later l

tail : {d e : ℕ} {ds : List ℕ} → IsPositive (d ∷ e ∷ ds) → IsPositive (e ∷ ds)
tail (more h p) = p

head : {d : ℕ} {ds : List ℕ} → IsPositive (d ∷ ds) → is_key_digit d ≡ true
head (last h l) = h
head (more h p) = h

pub not_below_nil : {a : List ℕ} → IsLess a [] → ⊥
not_below_nil l = elim l [ ]

-- where no digit stands between the first ones
midpoint_beside-law : (a : List ℕ) (y : ℕ) (ys : List ℕ) → list_all is_key_digit a ≡ true → IsPositive (y ∷ ys)
    → first_digit a < y → IsMiddle a (y ∷ ys) (midpoint_beside a (y ∷ ys))
unfolding midpoint_beside
midpoint_beside-law a y [] h p l =
    let rest = midpoint_above-law (later_digits a) (later-digits a h) in
    record { positive = more (first-digit a h) rest.positive; above = below-later a _ rest.above; below = parted l }
midpoint_beside-law a y (z ∷ zs) h p l =
    record {
      positive = last (head p) (grind (arith, is_key_digit-range (first_digit a) (first-digit a h)));
      above =
          below-parted a y [] l;
      below = later ended;
    }

tail_above : {y : ℕ} {ys a : List ℕ} → IsPositive (y ∷ ys) → IsLess a ys → IsPositive ys
tail_above (last h k) l = absurd (not_below_nil l)
tail_above (more h p) l = p

pub midpoint-law : (a b : List ℕ) → list_all is_key_digit a ≡ true → IsPositive b → IsLess a b
    → IsMiddle a b (midpoint a b)
unfolding midpoint
midpoint-law a [] h p l = absurd (not_below_nil l)
midpoint-law a (y ∷ ys) h p l =
    let first = first-digit a h in
    let gap = digit_value y - digit_value (first_digit a) in
    let middle = middle_digit (digit_value (first_digit a)) (digit_value y) ∷ [] in
    cond_both (eqb (first_digit a) y) (y ∷ midpoint (later_digits a) ys)
    (cond (ltb 1 gap) middle (midpoint_beside a (y ∷ ys))) (IsMiddle a (y ∷ ys))
    (λ same. elim (heads a l p) [
      | inl lt ↦ absurd (let e : first_digit a ≡ y = eqb-true (first_digit a) y same in omega arith)
      | inr e ↦
          let rest = midpoint-law (later_digits a) ys (later-digits a h) (tail_above p e.1) e.1 in
          record {
            positive = more (head p) rest.positive;
            above = subst (λ d. IsLess a (d ∷ midpoint (later_digits a) ys)) e.0
                (below-later a (midpoint (later_digits a) ys) rest.above);
            below = later rest.below;
          }
    ])
    (λ other. elim (heads a l p) [
      | inr e ↦ absurd (eqb-false (first_digit a) y other e.0)
      | inl lt ↦ cond_both (ltb 1 gap) middle (midpoint_beside a (y ∷ ys)) (IsMiddle a (y ∷ ys))
          (λ far. record {
            positive = middle-positive (first_digit a) (digit_value y) first far (le_of_lt (digit_value-lt y (head p)));
            above = below-parted a (middle_digit (digit_value (first_digit a)) (digit_value y)) []
                (middle_digit-above (first_digit a) (digit_value y) first (ltb-true 1 gap far)
                (le_of_lt (digit_value-lt y (head p)))).1;
            below = parted (middle_digit-below (digit_value (first_digit a)) y (head p) (ltb-true 1 gap far));
          })
          (λ _. midpoint_beside-law a y ys h p lt)
    ])
