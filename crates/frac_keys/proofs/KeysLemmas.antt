-- Many keys as the code makes them, one behind the other.
use Rattle.std.proofs.Common.{◌≡◌, ℕ, zero, suc, ◌+◌, ◌-◌, ◌/◌, ◌<◌, ◌≤◌, List, [], ◌∷◌, ◌++◌, length, get_or, reverse, Option, Some, None, eqb, refl, sym, ◌∙◌, ap, ap₂, inl, inr, append_assoc, append-nil, arith}
use Rattle.std.proofs.lemmas.Bool.{cond-false, eqb-true, eqb-false, ne_eqb, cases_Bool}
use Rattle.std.proofs.lemmas.List.{reverse-append}
use Rattle.frac_keys.specs.Between.{key_between, keys_above, keys_below, keys_inside}
use Rattle.frac_keys.specs.Rising.{last_or}

pub last_or-push : (end : Option (List ℕ)) (xs : List (List ℕ)) (x : List ℕ) → last_or end (xs ++ x ∷ []) ≡ Some x
last_or-push end [] x = refl
last_or-push end (y ∷ xs) x = last_or-push (Some y) xs x

pub last_or-get : (end : Option (List ℕ)) (xs : List (List ℕ)) (d : List ℕ) → 0 < length xs
    → last_or end xs ≡ Some (get_or xs (length xs - 1) d)
last_or-get end [] d h = absurd (omega arith)
last_or-get end (x ∷ []) d h = refl
last_or-get end (x ∷ y ∷ xs) d h =
    let e : length (x ∷ y ∷ xs) - 1 ≡ suc (length (y ∷ xs) - 1) = omega arith in
    last_or-get (Some x) (y ∷ xs) d (omega arith) ∙ ap (λ n. Some (get_or (x ∷ y ∷ xs) n d)) (sym e)

-- one more key above those that are there
pub keys_above-more : (a : Option (List ℕ)) (xs : List (List ℕ)) (k : List ℕ) (i n : ℕ) → i < n
    → k ≡ key_between (last_or a xs) None
    → xs ++ keys_above (last_or a xs) (n - i) ≡ (xs ++ k ∷ []) ++ keys_above (last_or a (xs ++ k ∷ [])) (n - (i + 1))
unfolding keys_above
keys_above-more a xs k i n h e =
    let left : n - i ≡ suc (n - (i + 1)) = omega arith in
    rw (left, last_or-push, ← e, append_assoc) refl

-- one more key below those that are there, the last of which is the least
pub keys_below-more : (b : Option (List ℕ)) (xs : List (List ℕ)) (k : List ℕ) (i n : ℕ) → i < n
    → k ≡ key_between None (last_or b xs)
    → keys_below (last_or b xs) (n - i) ++ reverse xs ≡ keys_below (last_or b (xs ++ k ∷ [])) (n - (i + 1))
    ++ reverse (xs ++ k ∷ [])
unfolding keys_below
keys_below-more b xs k i n h e =
    let left : n - i ≡ suc (n - (i + 1)) = omega arith in
    rw (left, last_or-push, ← e, reverse-append, append_assoc) refl

-- no key is left to make
pub keys_above-done : (a : Option (List ℕ)) (xs : List (List ℕ)) (i n : ℕ) → n ≤ i → xs ++ keys_above a (n - i) ≡ xs
unfolding keys_above
keys_above-done a xs i n h = let done : n - i ≡ 0 = omega arith in rw (done, append-nil) refl

pub keys_below-done : (b : Option (List ℕ)) (xs : List (List ℕ)) (i n : ℕ) → n ≤ i → keys_below b (n - i) ++ xs ≡ xs
unfolding keys_below
keys_below-done b xs i n h = let done : n - i ≡ 0 = omega arith in rw done refl

-- any depth that is enough gives the same keys
pub none_inside : (depth : ℕ) (a b : Option (List ℕ)) → keys_inside depth a b 0 ≡ []
unfolding keys_inside
none_inside zero a b = refl
none_inside (suc depth) a b = refl

pub keys_inside-depth : (d e : ℕ) (a b : Option (List ℕ)) (n : ℕ) → n ≤ d → n ≤ e
    → keys_inside d a b n ≡ keys_inside e a b n
unfolding keys_inside
keys_inside-depth zero e a b n h l = let none : n ≡ 0 = omega arith in rw none (sym (none_inside e a b))
keys_inside-depth (suc d) zero a b n h l = let none : n ≡ 0 = omega arith in rw none (none_inside (suc d) a b)
keys_inside-depth (suc d) (suc e) a b n h l =
    let m = Some (key_between a b) in
    elim (cases_Bool (eqb n 0)) [
      | inl t ↦ rw (eqb-true n 0 t) refl
      | inr f ↦
          let some : 0 < n = grind (arith, eqb-false n 0 f) in
          let lower = keys_inside-depth d e a m (n / 2) (omega arith) (omega arith) in
          let upper = keys_inside-depth d e m b (n - n / 2 - 1) (omega arith) (omega arith) in
          cond-false (eqb n 0) [] (keys_inside d a m (n / 2) ++ key_between a b ∷ keys_inside d m b (n - n / 2 - 1)) f
          ∙ (ap₂ (λ xs ys. xs ++ key_between a b ∷ ys) lower upper
          ∙ sym (cond-false (eqb n 0) [] (keys_inside e a m (n / 2) ++ key_between a b
          ∷ keys_inside e m b (n - n / 2 - 1)) f))
    ]

-- the middle key and the halves beside it, each with the depth that its number asks for
pub keys_inside-halves : (a b : Option (List ℕ)) (k : List ℕ) (n : ℕ) → 0 < n → k ≡ key_between a b
    → keys_inside n a b n ≡ keys_inside (n / 2) a (Some k) (n / 2) ++ k
    ∷ keys_inside (n - n / 2 - 1) (Some k) b (n - n / 2 - 1)
unfolding keys_inside
keys_inside-halves a b k zero h e = absurd (omega arith)
keys_inside-halves a b k (suc n) h e =
    let low = suc n / 2 in
    let high = suc n - suc n / 2 - 1 in
    let m = Some (key_between a b) in
    rw e (cond-false (eqb (suc n) 0) [] (keys_inside n a m low ++ key_between a b ∷ keys_inside n m b high)
    (ne_eqb (suc n) 0 (omega arith))
    ∙ ap₂ (λ xs ys. xs ++ key_between a b ∷ ys)
    (keys_inside-depth n low a (Some (key_between a b)) low (omega arith) (omega arith))
    (keys_inside-depth n high (Some (key_between a b)) b high (omega arith) (omega arith)))

-- what is appended for the halves, one behind the other
pub keys_inside-joined : (old : List (List ℕ)) (a b : Option (List ℕ)) (k : List ℕ) (n : ℕ) → 0 < n
    → k ≡ key_between a b
    → (((old ++ keys_inside (n / 2) a (Some k) (n / 2)) ++ k ∷ [])
    ++ keys_inside (n - n / 2 - 1) (Some k) b (n - n / 2 - 1)) ≡ old ++ keys_inside n a b n
keys_inside-joined old a b k n h e = rw (keys_inside-halves a b k n h e, append_assoc, append_assoc) refl
