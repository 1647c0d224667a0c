-- What rows become where one is put in or taken out.
use Rattle.std.proofs.Common.{◌≡◌, ℕ, zero, suc, ◌<◌, ◌≤◌, Bool, true, false, not, ◌&&◌, ◌||◌, List, [], ◌∷◌, ◌++◌, length, get_or, take, drop, insert, Some, slice_get, bytes_eq, refl, sym, ap, ap₂, ◌∙◌, subst, inl, inr, arith}
use Rattle.std.specs.List.{list_any, remove, AllPairs}
use Rattle.std.proofs.lemmas.Bool.{and_parts, and_from, or_left, or_right, both_ways, false_from_ne_true, cases_Bool, cases_lt}
use Rattle.std.proofs.lemmas.List.Edits.{length-insert, length-remove}
use Rattle.std.proofs.lemmas.List.Elements.{All-from_get_or, All-append, All-cons, All-take, All-drop}
use Rattle.std.proofs.lemmas.List.Folds.{list_any-append}
use Rattle.std.proofs.lemmas.List.Kept.{AllPairs-cons}
use Rattle.std.proofs.lemmas.List.Quantifiers.{all_pairs_remove}
use Rattle.std.proofs.lemmas.Option.{slice_get_within}
use Rattle.std.proofs.lemmas.Slice.Eq.{bytes_eq-Decides}
use Rattle.links.specs.declared.rows.LinkRow.{LinkRow}
use Rattle.links.specs.Rows.{same_row, has_row, is_earlier, AreRowsRising, rows_at, AreRows}
use Rattle.links.specs.inner.Rows.{IsGapFor, IsRowAt}
use Rattle.links.proofs.Members.{bytes_eq-refl}
use Rattle.links.proofs.RowPlaces.{less-itself, get-rows-length, length-rows, rows-insert, rows-remove}

-- ---- rows that are the same
pub same_row-refl : (row : LinkRow) → same_row row row ≡ true
same_row-refl row = and_from (bytes_eq row.named row.named) (bytes_eq row.namer row.namer) (bytes_eq-refl row.named)
    (bytes_eq-refl row.namer)

pub same_row-true : (row other : LinkRow) → same_row row other ≡ true → row ≡ other
same_row-true row other h =
    let p = and_parts (bytes_eq row.named other.named) (bytes_eq row.namer other.namer) h in
    ap₂ (λ a b. record { named = a; namer = b }) ((bytes_eq-Decides row.named other.named).0 p.0)
    ((bytes_eq-Decides row.namer other.namer).0 p.1)

earlier-itself : (row : LinkRow) → is_earlier row row ≡ false
earlier-itself row = ap₂ (λ a b. a || (bytes_eq row.named row.named && b)) (less-itself row.named)
    (less-itself row.namer) ∙ and_false (bytes_eq row.named row.named) where
      and_false : (b : Bool) → (b && false) ≡ false
      and_false true = refl
      and_false false = refl

earlier-other : (row other : LinkRow) → is_earlier row other ≡ true → same_row row other ≡ false
earlier-other row other h =
    false_from_ne_true (same_row row other) (λ t. both_ways (is_earlier row row) (earlier-itself row)
    (ap (is_earlier row) (same_row-true row other t) ∙ h))

earlier-other' : (row other : LinkRow) → is_earlier other row ≡ true → same_row row other ≡ false
earlier-other' row other h =
    false_from_ne_true (same_row row other) (λ t. both_ways (is_earlier other other) (earlier-itself other)
    (ap (is_earlier other) (sym (same_row-true row other t)) ∙ h))

-- ---- one row more
module _ {X : Type 0} (R : X → X → Type 0) where
  AllPairs-tail : (x : X) (xs : List X) → AllPairs R (x ∷ xs) → AllPairs R xs
  AllPairs-tail x xs h i j d l m = h (suc i) (suc j) d (omega (arith, l)) (omega (arith, m))

  AllPairs-insert : (xs : List X) (i : ℕ) (x : X) → AllPairs R xs
      → ((k : ℕ) (d : X) → k < i → k < length xs → R (get_or xs k d) x)
      → ((k : ℕ) (d : X) → i ≤ k → k < length xs → R x (get_or xs k d)) → AllPairs R (insert xs i x)
  AllPairs-insert xs zero x h before behind =
      AllPairs-cons R x xs (All-from_get_or (R x) xs x (λ k l. behind k x (omega arith) l)) h
  AllPairs-insert [] (suc i) x h before behind =
      AllPairs-cons R x [] (λ k d l. absurd (omega (arith, l))) (λ k j d l m. absurd (omega (arith, m)))
  AllPairs-insert (y ∷ xs) (suc i) x h before behind =
      AllPairs-cons R y (insert xs i x)
      (All-append (R y) (take i xs) (x ∷ drop i xs) (All-take (R y) i xs (first y xs h))
      (All-cons (R y) x (drop i xs) (before 0 x (omega arith) (omega arith)) (All-drop (R y) i xs (first y xs h))))
      (AllPairs-insert xs i x (AllPairs-tail y xs h) (λ k d l m. before (suc k) d (omega (arith, l)) (omega (arith, m)))
      (λ k d l m. behind (suc k) d (omega (arith, l)) (omega (arith, m))))
    where
      first : (y : X) (xs : List X) → AllPairs R (y ∷ xs) → (k : ℕ) (d : X) → k < length xs → R y (get_or xs k d)
      first y xs h k d l = h 0 (suc k) d (omega arith) (omega (arith, l))

any-insert : {X : Type 0} (p : X → Bool) (xs : List X) (i : ℕ) (x : X)
    → list_any p (insert xs i x) ≡ (p x || list_any p xs)
any-insert p xs zero x = refl
any-insert p [] (suc i) x = refl
any-insert p (y ∷ xs) (suc i) x = ap (λ b. p y || b) (any-insert p xs i x) ∙ turned (p y) (p x) (list_any p xs) where
  turned : (a b c : Bool) → (a || (b || c)) ≡ (b || (a || c))
  turned true true c = refl
  turned true false c = refl
  turned false b c = refl

none_from : (row : LinkRow) (xs : List LinkRow)
    → ((k : ℕ) (d : LinkRow) → k < length xs → same_row row (get_or xs k d) ≡ false) → has_row xs row ≡ false
none_from row [] h = refl
none_from row (x ∷ xs) h =
    ap₂ (λ a b. a || b) (h 0 x (omega arith)) (none_from row xs (λ k d l. h (suc k) d (omega (arith, l))))

module _ (rows : List LinkRow) (row : LinkRow) where
  pub rise-insert : (i : ℕ) → AreRowsRising rows → IsGapFor rows row i → AreRowsRising (insert rows i row)
  rise-insert i rise gap =
      AllPairs-insert (λ a b. is_earlier a b ≡ true) rows i row rise (λ k d l m. gap.before k d l) gap.behind

  pub has-insert : (i : ℕ) (other : LinkRow) → has_row (insert rows i row) other
      ≡ (same_row other row || has_row rows other)
  has-insert i other = any-insert (same_row other) rows i row

  -- a row that is there changes nothing where it is put in
  pub has-there : (i : ℕ) (other : LinkRow) → IsRowAt rows row i
      → has_row rows other ≡ (same_row other row || has_row rows other)
  has-there i other at' =
      elim (cases_Bool (same_row other row)) [
        | inl t ↦ ap (has_row rows) (same_row-true other row t) ∙ has-at rows i at'
            ∙ sym (ap (λ b. b || has_row rows other) t)
        | inr f ↦ sym (ap (λ b. b || has_row rows other) f)
      ]
    where
      has-at : (xs : List LinkRow) (k : ℕ) → slice_get xs k ≡ Some row → has_row xs row ≡ true
      has-at [] k h = cc
      has-at (x ∷ xs) zero h = let e : x ≡ row = cc in
          or_left (same_row row x) (has_row xs row) (subst (λ y. same_row row y ≡ true) (sym e) (same_row-refl row))
      has-at (x ∷ xs) (suc k) h = or_right (same_row row x) (has_row xs row) (has-at xs k h)

  -- one that has a gap isn't there, so taking it out changes nothing
  absent-not : (i : ℕ) → IsGapFor rows row i → has_row rows row ≡ false
  absent-not i gap =
      none_from row rows (λ k d l. elim (cases_lt k i) [
        | inl less ↦ earlier-other' row (get_or rows k d) (gap.before k d less)
        | inr from ↦ earlier-other row (get_or rows k d) (gap.behind k d from l)
      ])

  pub has-absent : (i : ℕ) (other : LinkRow) → IsGapFor rows row i
      → has_row rows other ≡ (has_row rows other && not (same_row other row))
  has-absent i other gap =
      elim (cases_Bool (same_row other row)) [
        | inl t ↦ ap (has_row rows) (same_row-true other row t) ∙ absent-not i gap
            ∙ sym (ap (λ o. has_row rows o && not (same_row other row)) (same_row-true other row t)
            ∙ ap (λ b. b && not (same_row other row)) (absent-not i gap))
        | inr f ↦ sym (ap (λ b. has_row rows other && not b) f ∙ and_true (has_row rows other))
      ]
    where
      and_true : (b : Bool) → (b && true) ≡ b
      and_true true = refl
      and_true false = refl

-- ---- one row less
has-remove_from : (rows : List LinkRow) (row : LinkRow) (i : ℕ) (other : LinkRow) → AreRowsRising rows
    → IsRowAt rows row i
    → has_row (remove rows i) other ≡ (has_row rows other && not (same_row other row))
has-remove_from [] row i other rise at' = cc
has-remove_from (x ∷ rows) row zero other rise at' =
    let e : x ≡ row = cc in
    elim (cases_Bool (same_row other row)) [
      | inl t ↦
          let o = same_row-true other row t in
          ap (has_row rows) o
          ∙ none_from row rows (λ k d l. earlier-other row (get_or rows k d)
          (subst (λ y. is_earlier y (get_or rows k d) ≡ true) e
          (rise 0 (suc k) d (omega arith) (omega (arith, l)))))
          ∙ sym (ap (λ b. has_row (x ∷ rows) other && not b) t ∙ and_false (has_row (x ∷ rows) other))
      | inr f ↦
          sym (ap (λ b. has_row (x ∷ rows) other && not b) f ∙ and_true (has_row (x ∷ rows) other)
          ∙ ap (λ b. b || has_row rows other) (ap (same_row other) e ∙ f))
    ]
  where
    and_true : (b : Bool) → (b && true) ≡ b
    and_true true = refl
    and_true false = refl

    and_false : (b : Bool) → (b && false) ≡ false
    and_false true = refl
    and_false false = refl
has-remove_from (x ∷ rows) row (suc i) other rise at' =
    let apart : (same_row other x ≡ true) → same_row other row ≡ false =
    λ t. ap (λ o. same_row o row) (same_row-true other x t)
    ∙ earlier-other x row (earlier-at rows i at' (λ k d l. rise 0 (suc k) d (omega arith) (omega (arith, l)))) in
    ap (λ b. same_row other x || b) (has-remove_from rows row i other
    (AllPairs-tail (λ a b. is_earlier a b ≡ true) x rows rise) at')
    ∙ parted (same_row other x) (has_row rows other) (same_row other row) apart
  where
    earlier-at : (rows : List LinkRow) (i : ℕ) → slice_get rows i ≡ Some row
        → ((k : ℕ) (d : LinkRow) → k < length rows → is_earlier x (get_or rows k d) ≡ true) → is_earlier x row ≡ true
    earlier-at [] i h all = cc
    earlier-at (y ∷ rows) zero h all =
        let e : y ≡ row = cc in subst (λ z. is_earlier x z ≡ true) e (all 0 y (omega arith))
    earlier-at (y ∷ rows) (suc i) h all = earlier-at rows i h (λ k d l. all (suc k) d (omega (arith, l)))

    parted : (a b s : Bool) → (a ≡ true → s ≡ false) → (a || (b && not s)) ≡ ((a || b) && not s)
    parted true b s h = sym (ap (λ x. true && not x) (h refl))
    parted false b s h = refl

module _ (rows : List LinkRow) (row : LinkRow) (i : ℕ) (rise : AreRowsRising rows) (at' : IsRowAt rows row i) where
  pub rise-remove : i < length rows → AreRowsRising (remove rows i)
  rise-remove l = all_pairs_remove (λ a b. is_earlier a b ≡ true) rows i l rise

  pub has-remove : (other : LinkRow) → has_row (remove rows i) other ≡ (has_row rows other && not (same_row other row))
  has-remove other = has-remove_from rows row i other rise at'

-- ---- the arrays
module _ (named namers : List (List ℕ)) (are : AreRows named namers) (row : LinkRow) (i : ℕ) where
  pub in-named : i ≤ length (rows_at named namers) → i ≤ length named
  in-named l = rw (sym (length-rows named namers are.full)) l

  pub in-namers : i ≤ length (rows_at named namers) → i ≤ length namers
  in-namers l = rw are.full (in-named l)

  pub AreRows-insert : IsGapFor (rows_at named namers) row i
      → AreRows (insert named i row.named) (insert namers i row.namer)
  AreRows-insert gap = record {
    full = omega (
      arith,
      length-insert namers i row.namer (in-namers gap.in_range),
      length-insert named i row.named (in-named gap.in_range),
      are.full,
    );
    rise = subst AreRowsRising (sym (rows-insert named namers are.full i row.named row.namer))
        (rise-insert (rows_at named namers) row i are.rise gap);
  }

  pub has-inserted : (other : LinkRow) → has_row (rows_at (insert named i row.named) (insert namers i row.namer)) other
      ≡ (same_row other row || has_row (rows_at named namers) other)
  has-inserted other = ap (λ rows. has_row rows other) (rows-insert named namers are.full i row.named row.namer)
      ∙ has-insert (rows_at named namers) row i other

module _ (named namers : List (List ℕ)) (are : AreRows named namers) (i : ℕ) where
  pub AreRows-remove : i < length named → AreRows (remove named i) (remove namers i)
  AreRows-remove l = record {
    full = omega (arith, length-remove namers i (rw are.full l), length-remove named i l, are.full);
    rise = subst AreRowsRising (sym (rows-remove named namers are.full i))
        (all_pairs_remove (λ a b. is_earlier a b ≡ true) (rows_at named namers) i
        (rw (length-rows named namers are.full) l) are.rise);
  }

  pub has-removed : (row : LinkRow) → IsRowAt (rows_at named namers) row i → (other : LinkRow)
      → has_row (rows_at (remove named i) (remove namers i)) other
      ≡ (has_row (rows_at named namers) other && not (same_row other row))
  has-removed row at' other = ap (λ rows. has_row rows other) (rows-remove named namers are.full i)
      ∙ has-remove (rows_at named namers) row i are.rise at' other

pub within-at : (named namers : List (List ℕ)) → AreRows named namers → (row : LinkRow) (i : ℕ)
    → IsRowAt (rows_at named namers) row i → i < length named
within-at named namers are row i at' =
    get-rows-length named namers are.full i row (slice_get_within (rows_at named namers) i row at')

-- rows and one more have what either has
pub has-push : (rows : List LinkRow) (row other : LinkRow) (b : Bool)
    → (same_row other row || (has_row rows other || b)) ≡ (has_row (rows ++ row ∷ []) other || b)
has-push rows row other b =
    turned (same_row other row) (has_row rows other) b
    ∙ ap (λ a. a || b) (sym (list_any-append (same_row other) rows (row ∷ [])))
  where
    turned : (a c b : Bool) → (a || (c || b)) ≡ ((c || (a || false)) || b)
    turned true true b = refl
    turned true false b = refl
    turned false true b = refl
    turned false false b = refl
