-- A function of each element of a list.
use Rattle.std.proofs.Common.{◌≡◌, List, [], ◌∷◌, Bool, ◌||◌, map, refl, ap, ◌∙◌}
use Rattle.std.specs.List.{All, list_any}
use Rattle.std.proofs.lemmas.List.Elements.{All-head, All-tail}

module _ {X Y : Type 0} where
  pub map-agree : (f g : X → Y) (xs : List X) → ((x : X) → f x ≡ g x) → map f xs ≡ map g xs
  map-agree f g xs h = ap (λ k. map k xs) (λ i x. h x i)

module _ {X Y Z : Type 0} where
  pub map-map : (g : Y → Z) (f : X → Y) (xs : List X) → map g (map f xs) ≡ map (λ x. g (f x)) xs
  map-map g f [] = refl
  map-map g f (x ∷ xs) = ap (λ ys. g (f x) ∷ ys) (map-map g f xs)

module _ {X : Type 0} where
  -- what stays as it is
  pub map-same : (f : X → X) (xs : List X) → All (λ x. f x ≡ x) xs → map f xs ≡ xs
  map-same f [] h = refl
  map-same f (x ∷ xs) h =
      ap (λ y. y ∷ map f xs) (All-head (λ x. f x ≡ x) x xs h)
      ∙ ap (λ ys. x ∷ ys) (map-same f xs (All-tail (λ x. f x ≡ x) x xs h))

  pub list_any-map : (p : X → Bool) (f : X → X) (xs : List X) → ((x : X) → p (f x) ≡ p x)
      → list_any p (map f xs) ≡ list_any p xs
  list_any-map p f [] h = refl
  list_any-map p f (x ∷ xs) h = λ i. h x i || list_any-map p f xs h i
