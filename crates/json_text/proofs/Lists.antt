-- What a list with an image of each item of another one has, what is left of a list, and what isn't there.
use Rattle.std.proofs.Common.{◌≡◌, zero, suc, List, [], ◌∷◌, map, Contains, refl, ap, arith, ℕ, ◌≤◌, length, drop, length-drop, ◌+◌, ◌<◌, ◌++◌, ◌∙◌, take, get_or, sym, Option, None, Some, is_some, false}
use Rattle.std.proofs.Math.Seq.{take-suc}
use Rattle.std.proofs.lemmas.List.{take_more}
use Rattle.std.proofs.lemmas.Bool.{false≢true}

pub Contains-map : {X Y : Type 0} (f : X → Y) (xs : List X) (y : Y) → Contains (map f xs) y → (x : X) × Contains xs x
    × (f x ≡ y)
Contains-map f [] y c = absurd (omega (arith, c.1))
Contains-map f (x ∷ xs) y (zero, l, e) = (x, (0, omega arith, refl), e)
Contains-map f (x ∷ xs) y (suc k, l, e) =
    let later = Contains-map f xs y (k, omega arith, e) in
    (later.0, (suc later.1.0, omega (arith, later.1.1), later.1.2), later.2)

pub Contains-to_map : {X Y : Type 0} (f : X → Y) (xs : List X) (x : X) → Contains xs x → Contains (map f xs) (f x)
Contains-to_map f [] x c = absurd (omega (arith, c.1))
Contains-to_map f (y ∷ ys) x (zero, l, e) = (zero, omega arith, ap f e)
Contains-to_map f (y ∷ ys) x (suc k, l, e) =
    let later = Contains-to_map f ys x (k, omega arith, e) in (suc later.0, omega (arith, later.1), later.2)

-- Offsets within a list that leave the same of it are one.
pub drop-once : {X : Type 0} (xs : List X) (at next : ℕ) → at ≤ length xs → next ≤ length xs
    → drop at xs ≡ drop next xs → at ≡ next
drop-once xs at next within also same = omega (arith, ap length same, length-drop at xs, length-drop next xs)

-- one more item from the front
pub take-next : {X : Type 0} (xs : List X) (i : ℕ) (x : X) → i < length xs → x ≡ get_or xs i x
    → take (suc i) xs ≡ take i xs ++ x ∷ []
take-next xs i x within here = take-suc xs i x within ∙ ap (λ y. take i xs ++ y ∷ []) (sym here)

pub taken-next : {X : Type 0} (xs : List X) (i : ℕ) (x : X) → i < length xs → x ≡ get_or xs i x
    → take (i + 1) xs ≡ take i xs ++ x ∷ []
taken-next xs i x within here = take_more xs i x within ∙ ap (λ y. take i xs ++ y ∷ []) (sym here)

-- what isn't there
pub none-is : {X : Type 0} (o : Option X) → is_some o ≡ false → o ≡ None
none-is None h = refl
none-is (Some x) h = absurd (false≢true (sym h))
