-- A link's place among rising links.
use Rattle.std.proofs.Common.{◌≡◌, ℕ, zero, suc, ◌+◌, ◌-◌, ◌<◌, ◌≤◌, Bool, true, false, nat_lt, List, [], ◌∷◌, ◌++◌, length, get_or, take, drop, insert, filter, inl, inr, refl, sym, ap, ap₂, ◌∙◌, append_assoc, arith}
use Rattle.std.specs.List.Sorted.{IsStrictlyIncreasing}
use Rattle.std.proofs.lemmas.Bool.{lt-ltb, le-ltb, cases_lt}
use Rattle.std.proofs.lemmas.List.{take_more, take-append-drop}
use Rattle.std.proofs.lemmas.List.Edits.{get_or-insert_at, get_or-insert_below, get_or-insert_above, length-insert}
use Rattle.std.proofs.lemmas.Map.Keys.{sorted_from_strictly_increasing, below_from_sorted}
use Rattle.room_core.specs.Rooms.{with_link}

-- a test that passes exactly the first i elements
filter-front : (p : ℕ → Bool) (xs : List ℕ) (i : ℕ) → ((k : ℕ) → k < i → k < length xs → p (get_or xs k 0) ≡ true)
    → ((k : ℕ) → i ≤ k → k < length xs → p (get_or xs k 0) ≡ false) → filter p xs ≡ take i xs
filter-front p [] zero before after = refl
filter-front p [] (suc i) before after = refl
filter-front p (y ∷ ys) zero before after =
    rw (after 0 (omega arith) (omega arith)) (filter-front p ys zero (λ k l m. absurd (omega arith))
    (λ k l m. after (suc k) (omega arith) (omega arith)))
filter-front p (y ∷ ys) (suc i) before after =
    rw (before 0 (omega arith) (omega arith))
    (ap (λ zs. y ∷ zs) (filter-front p ys i (λ k l m. before (suc k) (omega arith) (omega arith))
    (λ k l m. after (suc k) (omega arith) (omega arith))))

-- a test that passes exactly the elements from the i-th on
filter-back : (p : ℕ → Bool) (xs : List ℕ) (i : ℕ) → ((k : ℕ) → k < i → k < length xs → p (get_or xs k 0) ≡ false)
    → ((k : ℕ) → i ≤ k → k < length xs → p (get_or xs k 0) ≡ true) → filter p xs ≡ drop i xs
filter-back p [] zero before after = refl
filter-back p [] (suc i) before after = refl
filter-back p (y ∷ ys) zero before after =
    rw (after 0 (omega arith) (omega arith))
    (ap (λ zs. y ∷ zs) (filter-back p ys zero (λ k l m. absurd (omega arith))
    (λ k l m. after (suc k) (omega arith) (omega arith))))
filter-back p (y ∷ ys) (suc i) before after =
    rw (before 0 (omega arith) (omega arith)) (filter-back p ys i (λ k l m. before (suc k) (omega arith) (omega arith))
    (λ k l m. after (suc k) (omega arith) (omega arith)))

-- the place of a link that isn't among the links
module _ (xs : List ℕ) (x i : ℕ) (within : i ≤ length xs) (below : (k : ℕ) → k < i → get_or xs k 0 < x)
    (above : (k : ℕ) → i ≤ k → k < length xs → x < get_or xs k 0) where
  pub with_link-absent : insert xs i x ≡ with_link xs x
  with_link-absent =
      let low = filter-front (λ other. nat_lt other x) xs i (λ k l m. lt-ltb _ _ (below k l))
      (λ k l m. le-ltb _ _ (omega (arith, above k l m))) in
      let high = filter-back (λ other. nat_lt x other) xs i (λ k l m. le-ltb _ _ (omega (arith, below k l)))
      (λ k l m. lt-ltb _ _ (above k l m)) in
      sym (ap₂ (λ low high. low ++ (x ∷ high)) low high)

  pub insert-rises : IsStrictlyIncreasing xs → IsStrictlyIncreasing (insert xs i x)
  insert-rises rise k l =
      let more = insert xs i x in
      let long = length-insert xs i x within in
      let at = get_or-insert_at xs i x 0 within in
      elim (cases_lt (k + 1) i) [
        | inl a ↦ omega (
          arith,
          get_or-insert_below xs i x 0 k (omega arith) within,
          get_or-insert_below xs i x 0 (k + 1) a within,
          rise k (omega arith),
        )
        | inr a ↦ elim (cases_lt k i) [
          | inl b ↦ let same : k + 1 ≡ i = omega arith in
              omega (arith, get_or-insert_below xs i x 0 k b within, ap (λ j. get_or more j 0) same, at, below k b)
          | inr b ↦ elim (cases_lt i k) [
            | inl c ↦ let same : (k - 1) + 1 ≡ k = omega arith in
                let next : get_or xs (k - 1) 0 < get_or xs ((k - 1) + 1) 0 = rise (k - 1) (omega (arith, long, l)) in
                omega (
                  arith,
                  get_or-insert_above xs i x 0 (k - 1) (omega arith) within,
                  ap (λ j. get_or more j 0) same,
                  get_or-insert_above xs i x 0 k b within,
                  ap (λ j. get_or xs j 0) same,
                  next,
                )
            | inr c ↦ let same : k ≡ i = omega arith in
                omega (
                  arith,
                  ap (λ j. get_or more j 0) same,
                  at,
                  get_or-insert_above xs i x 0 k b within,
                  above k b (omega (arith, long, l)),
                )
          ]
        ]
      ]

-- the place of a link that is among them
pub with_link-found : (xs : List ℕ) (x i : ℕ) → IsStrictlyIncreasing xs → i < length xs → get_or xs i 0 ≡ x
    → xs ≡ with_link xs x
with_link-found xs x i rise l at =
    let sorted = sorted_from_strictly_increasing xs rise in
    let below = λ (k : ℕ) (m : k < i). below_from_sorted xs k i 0 sorted m l in
    let above = λ (k : ℕ) (m : i < k) (n : k < length xs). below_from_sorted xs i k 0 sorted m n in
    let low = filter-front (λ other. nat_lt other x) xs i (λ k m n. lt-ltb _ _ (omega (arith, below k m, at)))
    (λ k m n. le-ltb _ _ (elim (cases_lt i k) [
      | inl p ↦ omega (arith, above k p n, at)
      | inr p ↦ let same : k ≡ i =
          omega arith in omega (arith, ap (λ j. get_or xs j 0) same, at)
    ])) in
    let high = filter-back (λ other. nat_lt x other) xs (i + 1)
    (λ k m n. le-ltb _ _ (elim (cases_lt k i) [
      | inl p ↦ omega (arith, below k p, at)
      | inr p ↦ let same : k ≡ i =
          omega arith in omega (arith, ap (λ j. get_or xs j 0) same, at)
    ]))
    (λ k m n. lt-ltb _ _ (omega (arith, above k (omega arith) n, at))) in
    sym (take-append-drop (i + 1) xs)
    ∙ ap (λ zs. zs ++ drop (i + 1) xs) (take_more xs i 0 l ∙ ap (λ y. take i xs ++ y ∷ []) at)
    ∙ append_assoc (take i xs) (x ∷ []) (drop (i + 1) xs)
    ∙ sym (ap₂ (λ low high. low ++ (x ∷ high)) low high)
