-- Lists whose ids rise, of whatever has an id.
use Rattle.std.proofs.Common.{◌≡◌, ℕ, zero, suc, true, List, [], ◌∷◌, ◌++◌, map, Option, Some, None, Contains, refl, subst, arith}
use Rattle.std.proofs.lemmas.Bool.{and_parts, and_from}
use Rattle.std.proofs.lemmas.List.{map-append}
use Rattle.std.proofs.lemmas.List.Elements.{Contains-append_right}
use Rattle.frac_keys.specs.Keys.{bytes_less}
use Rattle.frac_keys.specs.Rising.{ends_rise, rise_between, are_rising}
use Rattle.frac_keys.proofs.CallerLemmas.{rise_between-join, bytes_less-trans}

module _ {X : Type 0} (id_of : X → List ℕ) where
  -- ids that rise and are less than an end rise up to it
  rise_to : (a : Option (List ℕ)) (xs : List X) (k : List ℕ) → ((x : X) → Contains xs x → bytes_less (id_of x) k ≡ true)
      → ends_rise a (Some k) ≡ true → rise_between a None (map id_of xs) ≡ true
      → rise_between a (Some k) (map id_of xs) ≡ true
  rise_to a [] k less first h = first
  rise_to a (x ∷ xs) k less first h =
      let parts = and_parts (ends_rise a (Some (id_of x))) (rise_between (Some (id_of x)) None (map id_of xs)) h in
      and_from (ends_rise a (Some (id_of x))) (rise_between (Some (id_of x)) (Some k) (map id_of xs)) parts.0
      (rise_to (Some (id_of x)) xs k (λ y c. less y (suc c.0, omega (arith, c.1), c.2)) (less x (0, omega arith, refl))
      parts.1)

  -- one more, of a greater id
  pub rising-push : (xs : List X) (x : X) → ((y : X) → Contains xs y → bytes_less (id_of y) (id_of x) ≡ true)
      → are_rising (map id_of xs) ≡ true → are_rising (map id_of (xs ++ x ∷ [])) ≡ true
  rising-push xs x less h =
      rw (map-append id_of xs (x ∷ [])) (rise_between-join None None (map id_of xs) (id_of x) []
      (rise_to None xs (id_of x) less refl h) refl)

  -- what stands behind an end is greater
  above : (k : List ℕ) (xs : List X) (x : X) → rise_between (Some k) None (map id_of xs) ≡ true → Contains xs x
      → bytes_less k (id_of x) ≡ true
  above k [] x h c = absurd (omega (arith, c.1))
  above k (y ∷ ys) x h (zero, l, e) =
      subst (λ z. bytes_less k (id_of z) ≡ true) e
      (and_parts (bytes_less k (id_of y)) (rise_between (Some (id_of y)) None (map id_of ys)) h).0
  above k (y ∷ ys) x h (suc i, l, e) =
      let parts = and_parts (bytes_less k (id_of y)) (rise_between (Some (id_of y)) None (map id_of ys)) h in
      bytes_less-trans k (id_of y) (id_of x) parts.0 (above (id_of y) ys x parts.1 (i, omega arith, e))

  -- what stands before an item is less, and what stands behind it is greater
  earlier : (a : Option (List ℕ)) (xs : List X) (x : X) (ys : List X) (y : X)
      → rise_between a None (map id_of (xs ++ x ∷ ys)) ≡ true → Contains xs y → bytes_less (id_of y) (id_of x) ≡ true
  earlier a [] x ys y h c = absurd (omega (arith, c.1))
  earlier a (z ∷ zs) x ys y h (zero, l, e) =
      let parts =
      and_parts (ends_rise a (Some (id_of z))) (rise_between (Some (id_of z)) None (map id_of (zs ++ x ∷ ys))) h in
      subst (λ v. bytes_less (id_of v) (id_of x) ≡ true) e
      (above (id_of z) (zs ++ x ∷ ys) x parts.1 (Contains-append_right zs (x ∷ ys) x (0, omega arith, refl)))
  earlier a (z ∷ zs) x ys y h (suc i, l, e) =
      let parts =
      and_parts (ends_rise a (Some (id_of z))) (rise_between (Some (id_of z)) None (map id_of (zs ++ x ∷ ys))) h in
      earlier (Some (id_of z)) zs x ys y parts.1 (i, omega arith, e)

  later : (a : Option (List ℕ)) (xs : List X) (x : X) (ys : List X) (y : X)
      → rise_between a None (map id_of (xs ++ x ∷ ys)) ≡ true → Contains ys y → bytes_less (id_of x) (id_of y) ≡ true
  later a [] x ys y h c =
      above (id_of x) ys y (and_parts (ends_rise a (Some (id_of x))) (rise_between (Some (id_of x)) None (map id_of ys))
      h).1 c
  later a (z ∷ zs) x ys y h c =
      later (Some (id_of z)) zs x ys y (and_parts (ends_rise a (Some (id_of z)))
      (rise_between (Some (id_of z)) None (map id_of (zs ++ x ∷ ys))) h).1 c

  front : (a : Option (List ℕ)) (xs ys : List X) → rise_between a None (map id_of (xs ++ ys)) ≡ true
      → rise_between a None (map id_of xs) ≡ true
  front None [] ys h = refl
  front (Some a) [] ys h = refl
  front a (x ∷ xs) ys h =
      let parts =
      and_parts (ends_rise a (Some (id_of x))) (rise_between (Some (id_of x)) None (map id_of (xs ++ ys))) h in
      and_from (ends_rise a (Some (id_of x))) (rise_between (Some (id_of x)) None (map id_of xs)) parts.0
      (front (Some (id_of x)) xs ys parts.1)

  -- the first of them rise
  pub rising-front : (xs ys : List X) → are_rising (map id_of (xs ++ ys)) ≡ true → are_rising (map id_of xs) ≡ true
  rising-front xs ys h = front None xs ys h

  pub earlier_less : (xs : List X) (x : X) (ys : List X) (y : X) → are_rising (map id_of (xs ++ x ∷ ys)) ≡ true
      → Contains xs y → bytes_less (id_of y) (id_of x) ≡ true
  earlier_less xs x ys y h c = earlier None xs x ys y h c

  pub later_greater : (xs : List X) (x : X) (ys : List X) (y : X) → are_rising (map id_of (xs ++ x ∷ ys)) ≡ true
      → Contains ys y → bytes_less (id_of x) (id_of y) ≡ true
  later_greater xs x ys y h c = later None xs x ys y h c
