-- The integer part above another one is above all keys that begin with it, and the one below is below them.
use Rattle.std.proofs.Common.{◌≡◌, ℕ, zero, suc, ◌+◌, ◌-◌, ◌<◌, true, cond, List, [], ◌∷◌, ◌++◌, length, replicate, Option, Some, None, option_map, eqb, refl, inl, inr, sym, ◌∙◌, ap, subst, arith}
use Rattle.std.specs.Char.{is_ascii_alphabetic}
use Rattle.std.specs.List.{list_all}
use Rattle.std.specs.Option.{option_map_or}
use Rattle.std.proofs.lemmas.Bool.{and_parts, and_from, cases_Bool, cond-true, cond-false, eqb-true, eqb-false}
use Rattle.std.proofs.lemmas.Bool.Decides.{nat_tests}
use Rattle.std.proofs.lemmas.List.{length-replicate}
use Rattle.frac_keys.specs.Digits.{is_key_digit, digit_value}
use Rattle.frac_keys.specs.Keys.{digit_count, smallest_integer}
use Rattle.frac_keys.specs.Between.{carried, stepped, next_digit, previous_digit, next_head, previous_head, increment, decrement}
use Rattle.frac_keys.proofs.DigitLaws.{is_key_digit-range, digit_value-lt, digit_value-lt_last, digit_value-gt_first, digit_byte-digit, digit_byte-above, digit_byte-below}
use Rattle.frac_keys.proofs.OrderLaws.{IsLess, parted, later, Part, here, there, Up, Down, Part-from}

-- A head and as many digits as it counts.
pub data IsInteger : List ℕ → Type 0 where
  integer : {h : ℕ} {ds : List ℕ} → is_ascii_alphabetic h ≡ true → length ds ≡ digit_count h
      → list_all is_key_digit ds ≡ true → IsInteger (h ∷ ds)

pub list_all-replicate : (n d : ℕ) → is_key_digit d ≡ true → list_all is_key_digit (replicate n d) ≡ true
list_all-replicate zero d h = refl
list_all-replicate (suc n) d h =
    and_from (is_key_digit d) (list_all is_key_digit (replicate n d)) h (list_all-replicate n d h)

-- digits that were moved on, and how they part from what they were
record IsMoved (R : ℕ → ℕ → Type 0) (ds es : List ℕ) : Type 0 where
  pub parts : Part R ds es
  digits : list_all is_key_digit es ≡ true
  long : length es ≡ length ds

-- an integer part that was moved on
pub record IsStepped (R : ℕ → ℕ → Type 0) (i j : List ℕ) : Type 0 where
  pub parts : Part R i j
  pub integer : IsInteger j

module _ (R : ℕ → ℕ → Type 0) (full reset : ℕ) (next : ℕ → ℕ) (resets : is_key_digit reset ≡ true)
    (moves : (d : ℕ) → is_key_digit d ≡ true → (d ≡ full → ⊥) → R d (next d) × (is_key_digit (next d) ≡ true)) where
  carry : (d : ℕ) (ds es : List ℕ) → is_key_digit d ≡ true
      → cond (eqb d full) None (Some (next d ∷ replicate (length ds) reset)) ≡ Some es → IsMoved R (d ∷ ds) es
  carry d ds es h e =
      elim (cases_Bool (eqb d full)) [
        | inl t ↦ cc (cond-true (eqb d full) None (Some (next d ∷ replicate (length ds) reset)) t)
        | inr f ↦
            let m = moves d h (eqb-false d full f) in
            let is : next d ∷ replicate (length ds) reset ≡ es =
            cc (cond-false (eqb d full) None (Some (next d ∷ replicate (length ds) reset)) f) in
            subst (IsMoved R (d ∷ ds)) is (record {
              parts = here m.0;
              digits = and_from (is_key_digit (next d)) (list_all is_key_digit (replicate (length ds) reset)) m.1
                  (list_all-replicate (length ds) reset resets);
              long = ap suc (length-replicate (length ds) reset);
            })
      ]

  carried-law : (ds es : List ℕ) → list_all is_key_digit ds ≡ true → carried full reset next ds ≡ Some es
      → IsMoved R ds es
  unfolding carried
  carried-law [] es h e = cc
  carried-law (d ∷ ds) es h e = by_rest (carried full reset next ds) refl e
      (λ ms. carried-law ds ms (and_parts (is_key_digit d) (list_all is_key_digit ds) h).1) where
        by_rest : (o : Option (List ℕ)) → carried full reset next ds ≡ o
            → option_map_or (λ moved. Some (d ∷ moved)) o
            (cond (eqb d full) None (Some (next d ∷ replicate (length ds) reset))) ≡ Some es
            → ((ms : List ℕ) → carried full reset next ds ≡ Some ms → IsMoved R ds ms)
            → IsMoved R (d ∷ ds) es
        by_rest None was e hyp = carry d ds es (and_parts (is_key_digit d) (list_all is_key_digit ds) h).0 e
        by_rest (Some ms) was e hyp =
            let rest = hyp ms was in
            let is : d ∷ ms ≡ es = cc in
            subst (IsMoved R (d ∷ ds)) is (record {
              parts = there rest.parts;
              digits = and_from (is_key_digit d) (list_all is_key_digit ms)
                  (and_parts (is_key_digit d) (list_all is_key_digit ds) h).0 rest.digits;
              long = ap suc rest.long;
            })

  module _ (next_head : ℕ → Option ℕ) (heads : (h g : ℕ) → is_ascii_alphabetic h ≡ true → next_head h ≡ Some g → R h g
      × (is_ascii_alphabetic g ≡ true)) where
    resetted : (h : ℕ) (ds j : List ℕ) → is_ascii_alphabetic h ≡ true → (o : Option ℕ) → next_head h ≡ o
        → option_map (λ new. new ∷ replicate (digit_count new) reset) o ≡ Some j → IsStepped R (h ∷ ds) j
    resetted h ds j a None was e = cc
    resetted h ds j a (Some g) was e =
        let new = heads h g a was in
        let is : g ∷ replicate (digit_count g) reset ≡ j = cc in
        subst (IsStepped R (h ∷ ds)) is (record {
          parts = here new.0;
          integer =
              integer new.1 (length-replicate (digit_count g) reset) (list_all-replicate (digit_count g) reset resets);
        })

    pub stepped-law : {i : List ℕ} → IsInteger i → (j : List ℕ) → stepped full reset next next_head i ≡ Some j
        → IsStepped R i j
    unfolding stepped
    stepped-law (integer {h} {ds} a n d) j e = by_digits (carried full reset next ds) refl e where
      by_digits : (o : Option (List ℕ)) → carried full reset next ds ≡ o
          → option_map_or (λ moved. Some (h ∷ moved)) o (option_map (λ new. new ∷ replicate (digit_count new) reset)
          (next_head h)) ≡ Some j
          → IsStepped R (h ∷ ds) j
      by_digits None was e = resetted h ds j a (next_head h) refl e
      by_digits (Some es) was e =
          let moved = carried-law ds es d was in
          let is : h ∷ es ≡ j = cc in
          subst (IsStepped R (h ∷ ds)) is (record {
            parts = there moved.parts;
            integer =
                integer a (moved.long ∙ n) moved.digits;
          })

-- the digit after another one is above it, and the one before is below it
next_digit-law : (d : ℕ) → is_key_digit d ≡ true → (d ≡ 122 → ⊥) → (d < next_digit d)
    × (is_key_digit (next_digit d) ≡ true)
next_digit-law d h ne =
    let under = digit_value-lt_last d h ne in
    (digit_byte-above d (digit_value d + 1) h (omega arith), digit_byte-digit (digit_value d + 1) (omega arith))

previous_digit-law : (d : ℕ) → is_key_digit d ≡ true → (d ≡ 48 → ⊥) → (previous_digit d < d)
    × (is_key_digit (previous_digit d) ≡ true)
previous_digit-law d h ne =
    let over = digit_value-gt_first d h ne in
    let most = digit_value-lt d h in
    (digit_byte-below d (digit_value d - 1) h (omega arith), digit_byte-digit (digit_value d - 1) (omega arith))

next_head-law : (h g : ℕ) → is_ascii_alphabetic h ≡ true → next_head h ≡ Some g → (h < g)
    × (is_ascii_alphabetic g ≡ true)
unfolding next_head
next_head-law h g a e = grind (arith, nat_tests)

previous_head-law : (h g : ℕ) → is_ascii_alphabetic h ≡ true → previous_head h ≡ Some g → (g < h)
    × (is_ascii_alphabetic g ≡ true)
unfolding previous_head
previous_head-law h g a e = grind (arith, nat_tests)

pub increment-law : {i : List ℕ} → IsInteger i → (j : List ℕ) → increment i ≡ Some j → IsStepped Up i j
increment-law n j e = stepped-law Up 122 48 next_digit refl next_digit-law next_head next_head-law n j e

pub decrement-law : {i : List ℕ} → IsInteger i → (j : List ℕ) → decrement i ≡ Some j → IsStepped Down i j
decrement-law n j e =
    stepped-law Down 48 122 previous_digit refl previous_digit-law previous_head previous_head-law n j e

-- no digits part from zeros downward
not_below_zeros : {ds zs : List ℕ} → Part Up ds zs → list_all is_key_digit ds ≡ true
    → list_all (λ z. eqb z 48) zs ≡ true → ⊥
not_below_zeros (here {x} {y} {xs} {ys} l) h z =
    absurd (grind (
      arith,
      is_key_digit-range x (and_parts (is_key_digit x) (list_all is_key_digit xs) h).0,
      eqb-true y 48 (and_parts (eqb y 48) (list_all (λ z. eqb z 48) ys) z).0,
    ))
not_below_zeros (there {x} {xs} {ys} p) h z =
    not_below_zeros p (and_parts (is_key_digit x) (list_all is_key_digit xs) h).1
    (and_parts (eqb x 48) (list_all (λ z. eqb z 48) ys) z).1

not_below_smallest : {i j : List ℕ} → IsInteger i → Part Up i j → j ≡ smallest_integer → ⊥
not_below_smallest (integer {h} {ds} a n d) (here {x} {y} {xs} {ys} l) e =
    let least : y ≡ 65 = cc in grind (arith, nat_tests)
not_below_smallest (integer {h} {ds} a n d) (there {x} {xs} {ys} p) e =
    let zeros : ys ≡ replicate 26 48 = cc in
    not_below_zeros p d (subst (λ zs. list_all (λ z. eqb z 48) zs ≡ true) (sym zeros) refl)

pub increment-other : {i : List ℕ} → IsInteger i → (j : List ℕ) → increment i ≡ Some j → j ≡ smallest_integer → ⊥
increment-other n j e = not_below_smallest n (increment-law n j e).parts

-- digits that can't be moved on are all full
carried-none : (full reset : ℕ) (next : ℕ → ℕ) (ds : List ℕ) → carried full reset next ds ≡ None
    → ds ≡ replicate (length ds) full
unfolding carried
carried-none full reset next [] e = refl
carried-none full reset next (d ∷ ds) e =
    by_rest (carried full reset next ds) refl e (carried-none full reset next ds) where
      by_rest : (o : Option (List ℕ)) → carried full reset next ds ≡ o
          → option_map_or (λ moved. Some (d ∷ moved)) o
          (cond (eqb d full) None (Some (next d ∷ replicate (length ds) reset))) ≡ None
          → (carried full reset next ds ≡ None → ds ≡ replicate (length ds) full)
          → d ∷ ds ≡ full ∷ replicate (length ds) full
      by_rest (Some ms) was e hyp = cc
      by_rest None was e hyp =
          elim (cases_Bool (eqb d full)) [
            | inl t ↦ let same : d ≡ full = eqb-true d full t in let rest = hyp was in cc
            | inr f ↦ cc (cond-false (eqb d full) None (Some (next d ∷ replicate (length ds) reset)) f)
          ]

previous_head-none : (h : ℕ) → previous_head h ≡ None → h ≡ 65
unfolding previous_head
previous_head-none h e = grind (arith, nat_tests)

pub decrement-none : {i : List ℕ} → IsInteger i → decrement i ≡ None → i ≡ smallest_integer
unfolding stepped digit_count
decrement-none (integer {h} {ds} a n d) e = by_digits (carried 48 122 previous_digit ds) refl e where
  by_digits : (o : Option (List ℕ)) → carried 48 122 previous_digit ds ≡ o
      → option_map_or (λ moved. Some (h ∷ moved)) o (option_map (λ new. new ∷ replicate (digit_count new) 122)
      (previous_head h)) ≡ None
      → h ∷ ds ≡ smallest_integer
  by_digits (Some es) was e = cc
  by_digits None was e = by_head (previous_head h) refl e where
    by_head : (o : Option ℕ) → previous_head h ≡ o → option_map (λ new. new ∷ replicate (digit_count new) 122) o ≡ None
        → h ∷ ds ≡ smallest_integer
    by_head (Some g) is e = cc
    by_head None is e =
        let least : h ≡ 65 = previous_head-none h is in
        let full : ds ≡ replicate (length ds) 48 = carried-none 48 122 previous_digit ds was in
        let long : length ds ≡ 26 = n ∙ ap digit_count least in
        let zeros : ds ≡ replicate 26 48 = full ∙ ap (λ k. replicate k 48) long in
        cc

-- integer parts that differ part, if what they begin is in order
pub IsInteger-part : {i j : List ℕ} → IsInteger i → IsInteger j → (f g : List ℕ) → (i ≡ j → ⊥)
    → IsLess (i ++ f) (j ++ g) → Part Up i j
IsInteger-part (integer a n d) (integer b m e) f g ne (parted l) = here l
IsInteger-part (integer {h} {ds} a n d) (integer {ds = es} b m e) f g ne (later r) =
    there (Part-from ds es f g (n ∙ sym m) (λ same. ne (ap (λ t. h ∷ t) same)) r)
