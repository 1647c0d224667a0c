-- Which elements are kept, after one element more.
use Rattle.std.proofs.Common.{◌≡◌, ℕ, suc, ◌+◌, Bool, true, false, cond, List, [], ◌∷◌, ◌++◌, Option, Some, None, is_some, length, bytes_eq, nat_cmp, refl, sym, ap, subst, ◌∙◌, add-zero, arith}
use Rattle.std.specs.BTreeMap.{BTreeMap, get, Updates}
use Rattle.std.specs.Cmp.Lexicographic.{slice_cmp, nat_list_eq_equiv, texts_ties}
use Rattle.std.specs.List.{position_from}
use Rattle.std.proofs.lemmas.Bool.{false≢true}
use Rattle.json_text.proofs.CallerLemmas.{bytes_eq-true}
use Rattle.elem.specs.ElementValue.{ElementValue}
use Rattle.checks.specs.Lines.{is_kept, kept_of}
use Rattle.checks.specs.inner.Kept.{AreKept}

-- the first of two that is there
abbrev pub or_else : Option ℕ → Option ℕ → Option ℕ
or_else None other = other
or_else (Some k) other = Some k

or_else-none : (o : Option ℕ) → or_else o None ≡ o
or_else-none None = refl
or_else-none (Some k) = refl

-- where the first is that passes, one more behind
position-more : {X : Type 0} (t : X → Bool) (n : ℕ) (xs : List X) (x : X) → position_from t n (xs ++ x ∷ [])
    ≡ or_else (position_from t n xs) (cond (t x) (Some (n + length xs)) None)
position-more t n [] x = rw add-zero refl
position-more t n (y ∷ ys) x = by (t y) (position-more t (n + 1) ys x)
  where
    by : (b : Bool) → position_from t (n + 1) (ys ++ x ∷ [])
        ≡ or_else (position_from t (n + 1) ys) (cond (t x) (Some ((n + 1) + length ys)) None)
        → cond b (Some n) (position_from t (n + 1) (ys ++ x ∷ []))
        ≡ or_else (cond b (Some n) (position_from t (n + 1) ys)) (cond (t x) (Some (n + suc (length ys))) None)
    by true more = refl
    by false more =
        more
        ∙ ap (λ k. or_else (position_from t (n + 1) ys) (cond (t x) (Some k) None))
        (let e : (n + 1) + length ys ≡ n + suc (length ys) = omega arith in e)

-- the same where it doesn't pass
position-fails : {X : Type 0} (t : X → Bool) (xs : List X) (x : X) → t x ≡ false
    → position_from t 0 (xs ++ x ∷ []) ≡ position_from t 0 xs
position-fails t xs x fails =
    position-more t 0 xs x
    ∙ (ap (λ b. or_else (position_from t 0 xs) (cond b (Some (0 + length xs)) None)) fails
    ∙ or_else-none (position_from t 0 xs))

position-stays : {X : Type 0} (t : X → Bool) (xs : List X) (x : X) → is_some (position_from t 0 xs) ≡ true
    → position_from t 0 (xs ++ x ∷ []) ≡ position_from t 0 xs
position-stays t xs x some = position-more t 0 xs x ∙ by (position_from t 0 xs) some
  where
    by : (o : Option ℕ) → is_some o ≡ true → or_else o (cond (t x) (Some (0 + length xs)) None) ≡ o
    by None h = absurd (false≢true h)
    by (Some k) h = refl

position-last : {X : Type 0} (t : X → Bool) (xs : List X) (x : X) → position_from t 0 xs ≡ None → t x ≡ true
    → position_from t 0 (xs ++ x ∷ []) ≡ Some (length xs)
position-last t xs x none passes =
    position-more t 0 xs x
    ∙ (ap (λ o. or_else o (cond (t x) (Some (0 + length xs)) None)) none
    ∙ (ap (λ b. cond b (Some (0 + length xs)) None) passes
    ∙ ap Some (let e : 0 + length xs ≡ length xs = omega arith in e)))

module _ (stored updates : List ElementValue) (e : ElementValue) where
  other-id : (id : List ℕ) → bytes_eq id e.id ≡ false → is_kept stored id e ≡ false
  other-id id other = rw other refl

  pub kept-beaten : (m : BTreeMap (List ℕ) ℕ) → is_kept stored e.id e ≡ false → AreKept stored m updates
      → AreKept stored m (updates ++ e ∷ [])
  kept-beaten m fails are id =
      are id ∙ sym (position-fails (is_kept stored id) updates e (by (bytes_eq id e.id) refl))
    where
      by : (b : Bool) → bytes_eq id e.id ≡ b → is_kept stored id e ≡ false
      by true same = subst (λ i. is_kept stored i e ≡ false) (sym (bytes_eq-true id e.id same)) fails
      by false other = other-id id other

  pub kept-known : (m : BTreeMap (List ℕ) ℕ) → is_some (get (slice_cmp nat_cmp) m e.id) ≡ true
      → AreKept stored m updates → AreKept stored m (updates ++ e ∷ [])
  kept-known m some are id = are id ∙ sym (by (bytes_eq id e.id) refl)
    where
      by : (b : Bool) → bytes_eq id e.id ≡ b → kept_of stored (updates ++ e ∷ []) id ≡ kept_of stored updates id
      by true same =
          position-stays (is_kept stored id) updates e
          (subst (λ i. is_some (kept_of stored updates i) ≡ true) (sym (bytes_eq-true id e.id same))
          (sym (ap is_some (are e.id)) ∙ some))
      by false other = position-fails (is_kept stored id) updates e (other-id id other)

  pub kept-new : (m new : BTreeMap (List ℕ) ℕ) (key : List ℕ) (n : ℕ) → key ≡ e.id → n ≡ length updates
      → get (slice_cmp nat_cmp) m e.id ≡ None → is_kept stored e.id e ≡ true
      → Updates (slice_cmp nat_cmp) m new key (Some n) → AreKept stored m updates
      → AreKept stored new (updates ++ e ∷ [])
  kept-new m new key n own last none passes changes are id = by (bytes_eq id e.id) refl
    where
      test : (b : Bool) → bytes_eq id e.id ≡ b → get (slice_cmp nat_cmp) new id
          ≡ cond b (Some n) (get (slice_cmp nat_cmp) m id)
      test b same =
          changes.0 id
          ∙ ap (λ c. cond c (Some n) (get (slice_cmp nat_cmp) m id)) (sym (texts_ties key id)
          ∙ (nat_list_eq_equiv.symm key id ∙ (ap (bytes_eq id) own ∙ same)))

      by : (b : Bool) → bytes_eq id e.id ≡ b → get (slice_cmp nat_cmp) new id ≡ kept_of stored (updates ++ e ∷ []) id
      by true same =
          let at = bytes_eq-true id e.id same in
          test true same
          ∙ (ap Some last
          ∙ sym (position-last (is_kept stored id) updates e
          (subst (λ i. kept_of stored updates i ≡ None) (sym at) (sym (are e.id) ∙ none))
          (subst (λ i. is_kept stored i e ≡ true) (sym at) passes)))
      by false other =
          test false other
          ∙ (are id ∙ sym (position-fails (is_kept stored id) updates e (other-id id other)))
