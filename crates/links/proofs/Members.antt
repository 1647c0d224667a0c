-- Elements of a list, and what a test finds among them.
use Rattle.std.proofs.Common.{◌≡◌, ℕ, zero, suc, Bool, true, false, cond, ◌&&◌, ◌||◌, List, [], ◌∷◌, find, filter, map, Some, None, Contains, bytes_eq, refl, sym, ap, ap₂, subst, ◌∙◌, inl, inr, arith}
use Rattle.std.specs.List.{list_any, AllByRecursion}
use Rattle.std.specs.Option.{option_map}
use Rattle.std.proofs.lemmas.Bool.{or_cases, both_ways, cases_Bool, cond-true, cond-false}
use Rattle.std.proofs.lemmas.Option.{same_Some}
use Rattle.std.proofs.lemmas.List.Folds.{list_any_at}
use Rattle.std.proofs.lemmas.Map.Keys.{IsDistinct-head, IsDistinct-tail}
use Rattle.std.proofs.lemmas.Slice.Eq.{bytes_eq-Decides}
use Rattle.elem.specs.ElementValue.{ElementValue}
use Rattle.elem.specs.Order.{HaveDistinctIds}
use Rattle.links.specs.Names.{id_of}

pub same_bools : (a b : Bool) → (a ≡ true → b ≡ true) → (b ≡ true → a ≡ true) → a ≡ b
same_bools true b to back = sym (to refl)
same_bools false true to back = back refl
same_bools false false to back = refl

pub bytes_eq-refl : (a : List ℕ) → bytes_eq a a ≡ true
bytes_eq-refl a = (bytes_eq-Decides a a).1 refl

module _ {X : Type 0} where
  pub Contains-head : (x : X) (xs : List X) → Contains (x ∷ xs) x
  Contains-head x xs = (0, omega arith, refl)

  pub Contains-cons : (y : X) (xs : List X) (x : X) → Contains xs x → Contains (y ∷ xs) x
  Contains-cons y xs x (k, l, e) = (suc k, omega arith, e)

  pub map-same : {Y : Type 0} (f g : X → Y) (xs : List X) → ((x : X) → Contains xs x → f x ≡ g x) → map f xs ≡ map g xs
  map-same f g [] h = refl
  map-same f g (x ∷ xs) h =
      ap₂ (λ y ys. y ∷ ys) (h x (Contains-head x xs)) (map-same f g xs (λ y c. h y (Contains-cons x xs y c)))

  pub map-map : {Y Z : Type 0} (g : Y → Z) (f : X → Y) (xs : List X) → map g (map f xs) ≡ map (λ x. g (f x)) xs
  map-map g f [] = refl
  map-map g f (x ∷ xs) = ap (λ ys. g (f x) ∷ ys) (map-map g f xs)

  pub map-fixed : (f : X → X) (xs : List X) (x : X) → map f xs ≡ xs → Contains xs x → f x ≡ x
  map-fixed f [] x h c = absurd (omega (arith, c.1))
  map-fixed f (y ∷ xs) x h (zero, l, e) = let here : f y ≡ y = cc in subst (λ z. f z ≡ z) e here
  map-fixed f (y ∷ xs) x h (suc k, l, e) = map-fixed f xs x (cc) (k, omega arith, e)

  pub filter-map : {Y : Type 0} (p : Y → Bool) (f : X → Y) (xs : List X)
      → filter p (map f xs) ≡ map f (filter (λ x. p (f x)) xs)
  filter-map p f [] = refl
  filter-map p f (x ∷ xs) =
      elim (p (f x)) as (λ b. cond b (f x ∷ filter p (map f xs)) (filter p (map f xs))
      ≡ map f (cond b (x ∷ filter (λ x. p (f x)) xs) (filter (λ x. p (f x)) xs))) [
        | true ↦ ap (λ ys. f x ∷ ys) (filter-map p f xs)
        | false ↦ filter-map p f xs
      ]

  pub find-map : {Y : Type 0} (p : Y → Bool) (f : X → Y) (xs : List X)
      → find p (map f xs) ≡ option_map f (find (λ x. p (f x)) xs)
  find-map p f [] = refl
  find-map p f (x ∷ xs) =
      elim (p (f x)) as (λ b. cond b (Some (f x)) (find p (map f xs))
      ≡ option_map f (cond b (Some x) (find (λ x. p (f x)) xs))) [ true ↦ refl | false ↦ find-map p f xs ]

  pub Contains-map : {Y : Type 0} (f : X → Y) (xs : List X) (y : Y) → Contains (map f xs) y → (x : X) × Contains xs x
      × (f x ≡ y)
  Contains-map f [] y c = absurd (omega (arith, c.1))
  Contains-map f (x ∷ xs) y (zero, l, e) = (x, Contains-head x xs, e)
  Contains-map f (x ∷ xs) y (suc k, l, e) =
      let r = Contains-map f xs y (k, omega arith, e) in (r.0, Contains-cons x xs r.0 r.1, r.2)

module _ {X : Type 0} (p : X → Bool) where
  pub list_any-from : (xs : List X) (x : X) → Contains xs x → p x ≡ true → list_any p xs ≡ true
  list_any-from xs x (k, l, e) h = list_any_at p xs k x l (ap p e ∙ h)

  pub list_any-found : (xs : List X) → list_any p xs ≡ true → (x : X) × Contains xs x × (p x ≡ true)
  list_any-found [] h = cc
  list_any-found (x ∷ xs) h =
      elim (or_cases (p x) (list_any p xs) h) [
        | inl here ↦ (x, Contains-head x xs, here)
        | inr later ↦ let r = list_any-found xs later in (r.0, Contains-cons x xs r.0 r.1, r.2)
      ]

  pub list_any-same : (q : X → Bool) (xs : List X) → ((x : X) → Contains xs x → p x ≡ q x)
      → list_any p xs ≡ list_any q xs
  list_any-same q [] h = refl
  list_any-same q (x ∷ xs) h =
      ap₂ (λ a b. a || b) (h x (Contains-head x xs)) (list_any-same q xs (λ y c. h y (Contains-cons x xs y c)))

  -- a test and a truth
  pub list_any-and : (b : Bool) (xs : List X) → list_any (λ x. p x && b) xs ≡ (list_any p xs && b)
  list_any-and b [] = refl
  list_any-and b (x ∷ xs) = ap (λ r. (p x && b) || r) (list_any-and b xs) ∙ both (p x) (list_any p xs) b where
    both : (a d b : Bool) → ((a && b) || (d && b)) ≡ ((a || d) && b)
    both true d true = refl
    both true true false = refl
    both true false false = refl
    both false d b = refl

  pub find-Some : (xs : List X) (x : X) → find p xs ≡ Some x → Contains xs x × (p x ≡ true)
  find-Some [] x h = cc
  find-Some (y ∷ xs) x h =
      elim (cases_Bool (p y)) [
        | inl t ↦ let e : y ≡ x = same_Some y x (sym (cond-true (p y) (Some y) (find p xs) t) ∙ h) in
            (subst (Contains (y ∷ xs)) e (Contains-head y xs), ap p (sym e) ∙ t)
        | inr f ↦ let r = find-Some xs x (sym (cond-false (p y) (Some y) (find p xs) f) ∙ h) in
            (Contains-cons y xs x r.0, r.1)
      ]

  pub find-found : (xs : List X) → list_any p xs ≡ true → (x : X) × (find p xs ≡ Some x)
  find-found [] h = cc
  find-found (x ∷ xs) h =
      elim (cases_Bool (p x)) [
        | inl t ↦ (x, cond-true (p x) (Some x) (find p xs) t)
        | inr f ↦ let r = find-found xs (sym (ap (λ b. b || list_any p xs) f) ∙ h) in
            (r.0, cond-false (p x) (Some x) (find p xs) f ∙ r.1)
      ]

  pub find-None : (xs : List X) → ((x : X) → Contains xs x → p x ≡ false) → find p xs ≡ None
  find-None [] h = refl
  find-None (x ∷ xs) h = cond-false (p x) (Some x) (find p xs) (h x (Contains-head x xs))
      ∙ find-None xs (λ y c. h y (Contains-cons x xs y c))

  -- a narrower test that what is found passes finds it too
  pub find-narrow : (q : X → Bool) (xs : List X) → ((x : X) → q x ≡ true → p x ≡ true)
      → ((x : X) → find p xs ≡ Some x → q x ≡ true) → find q xs ≡ find p xs
  find-narrow q [] narrow first = refl
  find-narrow q (x ∷ xs) narrow first =
      elim (cases_Bool (p x)) [
        | inl t ↦ cond-true (q x) (Some x) (find q xs) (first x (cond-true (p x) (Some x) (find p xs) t))
            ∙ sym (cond-true (p x) (Some x) (find p xs) t)
        | inr f ↦ cond-false (q x) (Some x) (find q xs) (fails (q x) (λ h. both_ways (p x) f (narrow x h)))
            ∙ find-narrow q xs narrow (λ y h. first y (cond-false (p x) (Some x) (find p xs) f ∙ h))
            ∙ sym (cond-false (p x) (Some x) (find p xs) f)
      ]
    where
      fails : (b : Bool) → (b ≡ true → ⊥) → b ≡ false
      fails true h = absurd (h refl)
      fails false h = refl

-- ---- elements of one id are one
apart_at : (id : List ℕ) (xs : List ElementValue) (y : ElementValue)
    → AllByRecursion (λ other. bytes_eq id other ≡ false) (map id_of xs) → Contains xs y → bytes_eq id y.id ≡ false
apart_at id [] y h c = absurd (omega (arith, c.1))
apart_at id (x ∷ xs) y h (zero, l, e) = ap (λ (z : ElementValue). bytes_eq id z.id) (sym e) ∙ h.0
apart_at id (x ∷ xs) y h (suc k, l, e) = apart_at id xs y h.1 (k, omega arith, e)

pub one_of_id : (xs : List ElementValue) (x y : ElementValue) → HaveDistinctIds xs → Contains xs x → Contains xs y
    → x.id ≡ y.id → x ≡ y
one_of_id [] x y apart c d same = absurd (omega (arith, c.1))
one_of_id (z ∷ xs) x y apart (zero, l, e) (zero, m, f) same = sym e ∙ f
one_of_id (z ∷ xs) x y apart (zero, l, e) (suc k, m, f) same =
    let other = apart_at z.id xs y (IsDistinct-head bytes_eq z.id (map id_of xs) apart) (k, omega arith, f) in
    absurd (both_ways (bytes_eq z.id y.id) other ((bytes_eq-Decides z.id y.id).1 (ap id_of e ∙ same)))
one_of_id (z ∷ xs) x y apart (suc k, l, e) (zero, m, f) same =
    let other = apart_at z.id xs x (IsDistinct-head bytes_eq z.id (map id_of xs) apart) (k, omega arith, e) in
    absurd (both_ways (bytes_eq z.id x.id) other ((bytes_eq-Decides z.id x.id).1 (ap id_of f ∙ sym same)))
one_of_id (z ∷ xs) x y apart (suc k, l, e) (suc j, m, f) same =
    one_of_id xs x y (IsDistinct-tail bytes_eq z.id (map id_of xs) apart) (k, omega arith, e) (j, omega arith, f) same
