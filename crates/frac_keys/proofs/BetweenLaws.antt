-- The key between two ends is a key strictly between them.
use Rattle.std.proofs.Common.{◌≡◌, ℕ, true, false, cond, List, [], ◌∷◌, ◌++◌, Option, Some, None, unwrap_or, bytes_eq, codes, refl, sym, ◌∙◌, ap, ap₂, subst, subst₂, lit<, append-nil}
use Rattle.std.specs.List.{list_all}
use Rattle.std.proofs.lemmas.Bool.{cond_both, and_from}
use Rattle.std.proofs.lemmas.Slice.Eq.{bytes_eq-Decides}
use Rattle.frac_keys.specs.Digits.{is_key_digit}
use Rattle.frac_keys.specs.Keys.{digit_count, integer_part, fraction, ends_in_zero, smallest_integer, is_key, bytes_less}
use Rattle.frac_keys.specs.Between.{midpoint_above, midpoint, increment, decrement, key_above, key_below, key_inside, key_between}
use Rattle.frac_keys.specs.Rising.{ends_rise, is_key_or_none, lies_between}
use Rattle.frac_keys.proofs.OrderLaws.{IsLess, IsLess-from, bytes_less-from, bytes_less_itself, IsLess-append, IsLess-cancel, IsLess-up, IsLess-down, Part, Up, Down, ended}
use Rattle.frac_keys.proofs.MidpointLaws.{IsPositive, last, IsPositive-from, not_below_nil, midpoint_above-law, midpoint-law}
use Rattle.frac_keys.proofs.IntegerLaws.{IsInteger, integer, increment-law, increment-other, decrement-law, decrement-none, IsInteger-part}
use Rattle.frac_keys.proofs.KeyLaws.{IsKey, IsKey-from, is_key-positive, is_key-integer}

-- what is promised of a key above another one, and below it
record IsAbove (a k : List ℕ) : Type 0 where
  key : is_key k ≡ true
  above : IsLess a k

record IsBelow (b k : List ℕ) : Type 0 where
  key : is_key k ≡ true
  below : IsLess k b

not_same : (a b : List ℕ) → bytes_eq a b ≡ false → a ≡ b → ⊥
not_same a b f e = let t = (bytes_eq-Decides a b).1 e in cc

-- above a key: a greater fraction behind its integer part, or the integer part above
fraction_above : {a : List ℕ} → IsKey a → IsAbove a (integer_part a ++ midpoint_above (fraction a))
fraction_above {a} k =
    let m = midpoint_above-law (fraction a) k.digits in
    record {
      key = is_key-positive k.integer_is m.positive;
      above = subst (λ x. IsLess x (integer_part a ++ midpoint_above (fraction a))) k.joined
          (IsLess-append (integer_part a) m.above);
    }

integer_above : {a : List ℕ} → IsKey a → (j : List ℕ) → increment (integer_part a) ≡ Some j → IsAbove a j
integer_above {a} k j e =
    let s = increment-law k.integer_is j e in
    record {
      key = is_key-integer s.integer (increment-other k.integer_is j e);
      above = subst₂ IsLess k.joined (append-nil j) (IsLess-up s.parts (fraction a) []);
    }

key_above-law : {a : List ℕ} → IsKey a → IsAbove a (key_above a)
unfolding key_above
key_above-law {a} k = by (increment (integer_part a)) refl where
  by : (o : Option (List ℕ)) → increment (integer_part a) ≡ o
      → IsAbove a (unwrap_or o (integer_part a ++ midpoint_above (fraction a)))
  by None e = fraction_above k
  by (Some j) e = integer_above k j e

half : IsPositive (codes "V")
half = last refl (lit< tt)

-- below a key: its integer part or the one below, or the smallest integer part and a fraction
smallest-integer : IsInteger smallest_integer
unfolding digit_count
smallest-integer = integer refl refl refl

fraction_below : {b : List ℕ} → IsKey b → integer_part b ≡ smallest_integer
    → IsBelow b (smallest_integer ++ midpoint [] (fraction b))
fraction_below {b} k e = by (fraction b) refl where
  by : (f : List ℕ) → fraction b ≡ f → IsBelow b (smallest_integer ++ midpoint [] f)
  by [] is = absurd (k.other (sym k.joined ∙ (ap (λ f. integer_part b ++ f) is ∙ (append-nil (integer_part b) ∙ e))))
  by (d ∷ ds) is =
      let p = IsPositive-from d ds (subst (λ f. list_all is_key_digit f ≡ true) is k.digits)
      (subst (λ f. ends_in_zero f ≡ false) is k.not_zero) in
      let m = midpoint-law [] (d ∷ ds) refl p ended in
      let joined : smallest_integer ++ d ∷ ds ≡ b =
      ap (λ i. i ++ d ∷ ds) (sym e) ∙ (ap (λ f. integer_part b ++ f) (sym is) ∙ k.joined) in
      record {
        key = is_key-positive smallest-integer m.positive;
        below =
            subst (IsLess (smallest_integer ++ midpoint [] (d ∷ ds))) joined (IsLess-append smallest_integer m.below);
      }

beneath : {b : List ℕ} → IsKey b → (j : List ℕ) → Part Down (integer_part b) j → (f : List ℕ) → IsLess (j ++ f) b
beneath {b} k j p f = subst (IsLess (j ++ f)) k.joined (IsLess-down p f (fraction b))

integer_below : {b : List ℕ} → IsKey b → (integer_part b ≡ smallest_integer → ⊥) → (o : Option (List ℕ))
    → decrement (integer_part b) ≡ o
    → IsBelow b (cond (bytes_eq (unwrap_or o smallest_integer) smallest_integer) (smallest_integer ++ codes "V")
    (unwrap_or o smallest_integer))
integer_below k ne None e = absurd (ne (decrement-none k.integer_is e))
integer_below {b} k ne (Some j) e =
    let s = decrement-law k.integer_is j e in
    cond_both (bytes_eq j smallest_integer) (smallest_integer ++ codes "V") j (IsBelow b)
    (λ t. record {
      key = is_key-positive smallest-integer half;
      below = beneath k smallest_integer (subst (Part Down (integer_part b)) ((bytes_eq-Decides j smallest_integer).0 t)
          s.parts) (codes "V");
    })
    (λ f. record {
      key = is_key-integer s.integer (not_same j smallest_integer f);
      below = subst (λ x. IsLess x b) (append-nil j) (beneath k j s.parts []);
    })

key_below-law : {b : List ℕ} → IsKey b → IsBelow b (key_below b)
unfolding key_below
key_below-law {b} k =
    let i = integer_part b in
    let under = unwrap_or (decrement i) smallest_integer in
    let last = cond (bytes_eq under smallest_integer) (smallest_integer ++ codes "V") under in
    cond_both (bytes_eq i smallest_integer) (smallest_integer ++ midpoint [] (fraction b))
    (cond (bytes_less i b) i last) (IsBelow b)
    (λ t. fraction_below k ((bytes_eq-Decides i smallest_integer).0 t))
    (λ f. cond_both (bytes_less i b) i last (IsBelow b)
    (λ less. record { key = is_key-integer k.integer_is (not_same i smallest_integer f); below = IsLess-from i b less })
    (λ _. integer_below k (not_same i smallest_integer f) (decrement i) refl))

-- between two keys
record IsInside (a b k : List ℕ) : Type 0 where
  key : is_key k ≡ true
  above : IsLess a k
  below : IsLess k b

-- with one integer part, by the fractions
fractions_inside : {a b : List ℕ} → IsKey a → IsKey b → IsLess a b → integer_part a ≡ integer_part b
    → IsInside a b (integer_part a ++ midpoint (fraction a) (fraction b))
fractions_inside {a} {b} k l less e = by (fraction b) refl where
  by : (g : List ℕ) → fraction b ≡ g → IsInside a b (integer_part a ++ midpoint (fraction a) g)
  by g is =
      let joined : integer_part a ++ g ≡ b = ap₂ (λ i f. i ++ f) e (sym is) ∙ l.joined in
      let inner : IsLess (fraction a) g =
      IsLess-cancel (integer_part a) (fraction a) g (subst₂ IsLess (sym k.joined) (sym joined) less) in
      let m = midpoint-law (fraction a) g k.digits
      (positive g inner (subst (λ f. list_all is_key_digit f ≡ true) is l.digits)
      (subst (λ f. ends_in_zero f ≡ false) is l.not_zero)) inner in
      record {
        key = is_key-positive k.integer_is m.positive;
        above = subst (λ x. IsLess x (integer_part a ++ midpoint (fraction a) g)) k.joined
            (IsLess-append (integer_part a) m.above);
        below =
            subst (IsLess (integer_part a ++ midpoint (fraction a) g)) joined (IsLess-append (integer_part a) m.below);
      } where
        positive : (g : List ℕ) → IsLess (fraction a) g → list_all is_key_digit g ≡ true → ends_in_zero g ≡ false
            → IsPositive g
        positive [] l h z = absurd (not_below_nil l)
        positive (d ∷ ds) l h z = IsPositive-from d ds h z

-- keys in order whose integer parts differ part there
integers_part : {a b : List ℕ} → IsKey a → IsKey b → IsLess a b → (integer_part a ≡ integer_part b → ⊥)
    → Part Up (integer_part a) (integer_part b)
integers_part {a} {b} k l less ne =
    IsInteger-part k.integer_is l.integer_is (fraction a) (fraction b) ne
    (subst₂ IsLess (sym k.joined) (sym l.joined) less)

integers_inside : {a b : List ℕ} → IsKey a → IsKey b → Part Up (integer_part a) (integer_part b) → (o : Option (List ℕ))
    → increment (integer_part a) ≡ o
    → IsInside a b (cond (bytes_less (unwrap_or o b) b) (unwrap_or o b) (integer_part a ++ midpoint_above (fraction a)))
integers_inside {a} {b} k l p o e =
    let m = integer_part a ++ midpoint_above (fraction a) in
    cond_both (bytes_less (unwrap_or o b) b) (unwrap_or o b) m (IsInside a b) (λ less. by o e less)
    (λ _. let up = fraction_above k in record {
      key = up.key;
      above = up.above;
      below =
          subst (IsLess m) l.joined (IsLess-up p (midpoint_above (fraction a)) (fraction b));
    })
  where
    by : (o : Option (List ℕ)) → increment (integer_part a) ≡ o → bytes_less (unwrap_or o b) b ≡ true
        → IsInside a b (unwrap_or o b)
    by None e less = absurd (let f = bytes_less_itself b in cc)
    by (Some j) e less =
        let up = integer_above k j e in record { key = up.key; above = up.above; below = IsLess-from j b less }

key_inside-law : {a b : List ℕ} → IsKey a → IsKey b → IsLess a b → IsInside a b (key_inside a b)
unfolding key_inside
key_inside-law {a} {b} k l less =
    let above = unwrap_or (increment (integer_part a)) b in
    cond_both (bytes_eq (integer_part a) (integer_part b)) (integer_part a ++ midpoint (fraction a) (fraction b))
    (cond (bytes_less above b) above (integer_part a ++ midpoint_above (fraction a))) (IsInside a b)
    (λ t. fractions_inside k l less ((bytes_eq-Decides (integer_part a) (integer_part b)).0 t))
    (λ f. integers_inside k l (integers_part k l less (not_same (integer_part a) (integer_part b) f))
    (increment (integer_part a)) refl)

-- The law: the key between two ends is a key, strictly between them.
pub record IsBetween (a b : Option (List ℕ)) (k : List ℕ) : Type 0 where
  pub key : is_key k ≡ true
  pub above : ends_rise a (Some k) ≡ true
  pub below : ends_rise (Some k) b ≡ true

first : is_key (codes "a0") ≡ true
unfolding is_key digit_count
first = refl

pub key_between-law : (a b : Option (List ℕ)) → is_key_or_none a ≡ true → is_key_or_none b ≡ true → ends_rise a b ≡ true
    → IsBetween a b (key_between a b)
key_between-law None None h l e = record { key = first; above = refl; below = refl }
key_between-law None (Some b) h l e =
    let k = key_below-law (IsKey-from b l) in record { key = k.key; above = refl; below = bytes_less-from k.below }
key_between-law (Some a) None h l e =
    let k = key_above-law (IsKey-from a h) in record { key = k.key; above = bytes_less-from k.above; below = refl }
key_between-law (Some a) (Some b) h l e =
    let k = key_inside-law (IsKey-from a h) (IsKey-from b l) (IsLess-from a b e) in
    record { key = k.key; above = bytes_less-from k.above; below = bytes_less-from k.below }

-- the same of a list that is known to be that key
pub key_between_is : (a b : Option (List ℕ)) → is_key_or_none a ≡ true → is_key_or_none b ≡ true → ends_rise a b ≡ true
    → (k : List ℕ) → k ≡ key_between a b → (is_key k ≡ true) × (lies_between a b k ≡ true)
key_between_is a b h l e k is =
    let law = key_between-law a b h l e in
    subst (λ k. (is_key k ≡ true) × (lies_between a b k ≡ true)) (sym is) (
      law.key,
      and_from (ends_rise a (Some (key_between a b))) (ends_rise (Some (key_between a b)) b) law.above law.below,
    )
