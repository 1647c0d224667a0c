-- What a test finds in a list and what it keeps of it.
use Rattle.std.proofs.Common.{◌≡◌, zero, suc, Bool, true, false, cond, ◌&&◌, ◌||◌, ◌⊎◌, List, [], ◌∷◌, Some, None, is_some, Contains, find, filter, refl, sym, ap, ◌∙◌, subst, inl, inr, arith}
use Rattle.std.specs.List.{list_any}
use Rattle.std.proofs.lemmas.Bool.{cases_Bool, cond-true, cond-false}
use Rattle.std.proofs.lemmas.Option.{same_Some}
use Rattle.std.proofs.lemmas.List.Elements.{All-contains, All-contains_itself, All-filter, filter_passes}

module _ {X : Type 0} where
  pub Contains-head : (x : X) (xs : List X) → Contains (x ∷ xs) x
  Contains-head x xs = (0, omega arith, refl)

  pub Contains-cons : (y : X) (xs : List X) (x : X) → Contains xs x → Contains (y ∷ xs) x
  Contains-cons y xs x (k, l, e) = (suc k, omega arith, e)

  pub Contains-cases : (y : X) (xs : List X) (x : X) → Contains (y ∷ xs) x → (y ≡ x) ⊎ Contains xs x
  Contains-cases y xs x (zero, l, e) = inl e
  Contains-cases y xs x (suc k, l, e) = inr (k, omega arith, e)

module _ {X : Type 0} (p : X → Bool) where
  -- what is found is an element that passes
  pub find-Some : (xs : List X) (x : X) → find p xs ≡ Some x → Contains xs x × (p x ≡ true)
  find-Some [] x h = cc
  find-Some (y ∷ xs) x h =
      elim (cases_Bool (p y)) [
        | inl t ↦ let e : y ≡ x = same_Some y x (sym (cond-true (p y) (Some y) (find p xs) t) ∙ h) in
            (subst (Contains (y ∷ xs)) e (Contains-head y xs), ap p (sym e) ∙ t)
        | inr f ↦ let r = find-Some xs x (sym (cond-false (p y) (Some y) (find p xs) f) ∙ h) in
            (Contains-cons y xs x r.0, r.1)
      ]

  -- where no element passes nothing is found
  pub find-None : (xs : List X) → ((x : X) → Contains xs x → p x ≡ false) → find p xs ≡ None
  find-None [] h = refl
  find-None (y ∷ xs) h =
      cond-false (p y) (Some y) (find p xs) (h y (Contains-head y xs))
      ∙ find-None xs (λ x c. h x (Contains-cons y xs x c))

  -- something is found exactly if an element passes
  pub is_some-find : (xs : List X) → is_some (find p xs) ≡ list_any p xs
  is_some-find [] = refl
  is_some-find (x ∷ xs) =
      elim (p x) as (λ b. is_some (cond b (Some x) (find p xs)) ≡ (b || list_any p xs)) [
        | true ↦ refl
        | false ↦ is_some-find xs
      ]

  pub find-filter : (q : X → Bool) (xs : List X) → find (λ x. p x && q x) xs ≡ find q (filter p xs)
  find-filter q [] = refl
  find-filter q (x ∷ xs) =
      elim (p x) as (λ b. cond (b && q x) (Some x) (find (λ x. p x && q x) xs)
      ≡ find q (cond b (x ∷ filter p xs) (filter p xs))) [
        | true ↦ ap (cond (q x) (Some x)) (find-filter q xs)
        | false ↦ find-filter q xs
      ]

  pub list_any-filter : (q : X → Bool) (xs : List X) → list_any (λ x. p x && q x) xs ≡ list_any q (filter p xs)
  list_any-filter q [] = refl
  list_any-filter q (x ∷ xs) =
      elim (p x) as (λ b. ((b && q x) || list_any (λ x. p x && q x) xs)
      ≡ list_any q (cond b (x ∷ filter p xs) (filter p xs))) [
        | true ↦ ap (λ b. q x || b) (list_any-filter q xs)
        | false ↦ list_any-filter q xs
      ]

  -- an element that passes is kept
  pub Contains-filter : (xs : List X) (x : X) → Contains xs x → p x ≡ true → Contains (filter p xs) x
  Contains-filter [] x c h = absurd (omega (arith, c.1))
  Contains-filter (y ∷ xs) x (zero, l, e) h =
      rw (cond-true (p y) (y ∷ filter p xs) (filter p xs) (ap p e ∙ h))
      (subst (Contains (y ∷ filter p xs)) e (Contains-head y (filter p xs)))
  Contains-filter (y ∷ xs) x (suc k, l, e) h =
      let r = Contains-filter xs x (k, omega arith, e) h in
      elim (p y) as (λ b. Contains (cond b (y ∷ filter p xs) (filter p xs)) x)
      [ true ↦ Contains-cons y (filter p xs) x r | false ↦ r ]

  -- what is kept is an element that passes
  pub filter-Contains : (xs : List X) (x : X) → Contains (filter p xs) x → Contains xs x × (p x ≡ true)
  filter-Contains xs x c = (
    All-contains (Contains xs) (filter p xs) x (All-filter p (Contains xs) xs (All-contains_itself xs)) c,
    All-contains (λ y. p y ≡ true) (filter p xs) x (filter_passes p xs) c,
  )

  -- where no element passes each one fails
  pub list_any-false : (xs : List X) (x : X) → list_any p xs ≡ false → Contains xs x → p x ≡ false
  list_any-false [] x h c = absurd (omega (arith, c.1))
  list_any-false (y ∷ xs) x h (zero, l, e) = ap p (sym e) ∙ grind arith
  list_any-false (y ∷ xs) x h (suc k, l, e) = list_any-false xs x (grind arith) (k, omega arith, e)
