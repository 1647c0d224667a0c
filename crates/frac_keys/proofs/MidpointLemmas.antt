-- The midpoint as the code makes it, from what two fractions begin with and what follows.
use Rattle.std.proofs.Common.{◌≡◌, ℕ, zero, suc, ◌+◌, ◌-◌, ◌<◌, ◌≤◌, true, List, [], ◌∷◌, ◌++◌, length, take, drop, min, get_or, ◌≢◌, eqb, ltb, refl, sym, ◌∙◌, ap, subst, subst₂, append_assoc, add-one, one-add, lit<, arith}
use Rattle.std.specs.List.{list_all, prefix_len}
use Rattle.std.proofs.lemmas.Bool.{and_parts, cond_both, cond-true, cond-false, eqb-true, eqb-false, eq-eqb, ne_eqb, lt-ltb, le-ltb}
use Rattle.std.proofs.lemmas.List.{drop_more, take_more, take_rest, drop_min, nil_from_length}
use Rattle.frac_keys.specs.Digits.{is_key_digit, digit_value, middle_digit}
use Rattle.frac_keys.specs.Between.{first_digit, later_digits, midpoint_above, midpoint_beside, midpoint}
use Rattle.frac_keys.proofs.DigitLaws.{digit_value-lt_last}

-- n digits of 61 stand in front of a smaller one
pub record IsFull (a : List ℕ) (n : ℕ) : Type 0 where
  pub digit : is_key_digit (first_digit (drop n a)) ≡ true
  pub under : digit_value (first_digit (drop n a)) + 1 < 62
  pub split : midpoint_above a ≡ take n a ++ middle_digit (digit_value (first_digit (drop n a))) 62 ∷ []

nothing_full : IsFull [] 0
unfolding midpoint_above digit_value
nothing_full = record { digit = refl; under = lit< tt; split = refl }

later_suc : (a : List ℕ) (i : ℕ) → later_digits (drop i a) ≡ drop (suc i) a
later_suc [] zero = refl
later_suc [] (suc i) = refl
later_suc (x ∷ a) zero = refl
later_suc (x ∷ a) (suc i) = later_suc a i

later_drop : (a : List ℕ) (i : ℕ) → later_digits (drop i a) ≡ drop (i + 1) a
later_drop a i = rw add-one (later_suc a i)

at_last : (ds : List ℕ) (n : ℕ) → IsFull ds n → IsFull (122 ∷ ds) (suc n)
unfolding midpoint_above digit_value
at_last ds n rest = record { digit = rest.digit; under = rest.under; split = ap (λ t. 122 ∷ t) rest.split }

at_other : (d : ℕ) (ds : List ℕ) → is_key_digit d ≡ true → (d ≡ 122 → ⊥) → IsFull (d ∷ ds) 0
unfolding midpoint_above
at_other d ds h ne =
    let under = digit_value-lt_last d h ne in
    record {
      digit = h;
      under = omega arith;
      split =
          cond-true (ltb 1 (62 - digit_value d)) (middle_digit (digit_value d) 62 ∷ []) (d ∷ midpoint_above ds)
          (lt-ltb 1 (62 - digit_value d) (omega arith));
    }

pub full : (a : List ℕ) → list_all is_key_digit a ≡ true → IsFull a (prefix_len (λ d. eqb d 122) a)
full [] h = nothing_full
full (d ∷ ds) h =
    let p = and_parts (is_key_digit d) (list_all is_key_digit ds) h in
    cond_both (eqb d 122) (1 + prefix_len (λ d. eqb d 122) ds) 0 (IsFull (d ∷ ds))
    (λ t. subst₂ (λ e n. IsFull (e ∷ ds) n) (sym (eqb-true d 122 t)) (sym (one-add (prefix_len (λ d. eqb d 122) ds)))
    (at_last ds (prefix_len (λ d. eqb d 122) ds) (full ds p.1)))
    (λ f. at_other d ds p.0 (eqb-false d 122 f))

-- one more digit that both fractions begin with
pub midpoint_more : (a b : List ℕ) (i : ℕ) → i < length b → first_digit (drop i a) ≡ get_or b i 0
    → take i b ++ midpoint (drop i a) (drop i b) ≡ take (i + 1) b ++ midpoint (drop (i + 1) a) (drop (i + 1) b)
unfolding midpoint
midpoint_more a b i h e =
    let more : midpoint (drop i a) (get_or b i 0 ∷ drop (i + 1) b) ≡ get_or b i 0
    ∷ midpoint (later_digits (drop i a)) (drop (i + 1) b)
    = cond-true (eqb (first_digit (drop i a)) (get_or b i 0)) _ _ (eq-eqb (first_digit (drop i a)) (get_or b i 0) e) in
    rw (drop_more b i 0 h, more, take_more b i 0 h, append_assoc, later_drop a i) refl

-- the first digit of what is left, as the code cuts it
pub first_digit_at : (a : List ℕ) (i : ℕ) → first_digit (take (length a - min i (length a)) (drop (min i (length a)) a))
    ≡ first_digit (drop i a)
first_digit_at a i = rw (take_rest, drop_min) refl

-- Fractions whose first digits f and y differ, where l and h are the values of these.
module _ (a b : List ℕ) (y : ℕ) (ys : List ℕ) (f l h : ℕ) (cut : b ≡ y ∷ ys) (parted : 0 < length b
    → first_digit a ≢ get_or b 0 0)
    (first : f ≡ first_digit a) (low : l ≡ digit_value f) (high : h ≡ digit_value y) where
  apart : first_digit a ≡ y → ⊥
  apart = subst (λ c. 0 < length c → first_digit a ≢ get_or c 0 0) cut parted (omega arith)

  pub midpoint_far : l + 1 < h → midpoint a b ≡ middle_digit l h ∷ []
  unfolding midpoint
  midpoint_far far =
      let gap : digit_value (first_digit a) + 1 < digit_value y = rw (high, low, first) at far in
      let wide : 1 < digit_value y - digit_value (first_digit a) = omega arith in
      rw (cut, high, low, first) (
      cond-false (eqb (first_digit a) y) _ _ (ne_eqb (first_digit a) y apart)
      ∙ cond-true (ltb 1 (digit_value y - digit_value (first_digit a))) _ _
      (lt-ltb 1 (digit_value y - digit_value (first_digit a)) wide)
      )

  near : h ≤ l + 1 → midpoint a b ≡ midpoint_beside a (y ∷ ys)
  unfolding midpoint
  near less =
      let gap : digit_value y ≤ digit_value (first_digit a) + 1 = rw (high, low, first) at less in
      let narrow : digit_value y - digit_value (first_digit a) ≤ 1 = omega arith in
      rw cut (
      cond-false (eqb (first_digit a) y) _ _ (ne_eqb (first_digit a) y apart)
      ∙ cond-false (ltb 1 (digit_value y - digit_value (first_digit a))) _ _
      (le-ltb 1 (digit_value y - digit_value (first_digit a)) narrow)
      )

  pub midpoint_last : h ≤ l + 1 → length ys ≡ 0 → midpoint a b ≡ f ∷ midpoint_above (later_digits a)
  unfolding midpoint_beside
  midpoint_last less e = rw (near less, nil_from_length ys e, first) refl

  pub midpoint_first : h ≤ l + 1 → 0 < length ys → midpoint a b ≡ y ∷ []
  unfolding midpoint_beside
  midpoint_first less e = near less ∙ alone ys e where
    alone : (ys : List ℕ) → 0 < length ys → midpoint_beside a (y ∷ ys) ≡ y ∷ []
    alone [] e = absurd (omega arith)
    alone (z ∷ ys) e = refl
