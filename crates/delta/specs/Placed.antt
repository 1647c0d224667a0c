-- Items in the order of their ids. This project's own.
use Rattle.std.specs.Prelude.{ℕ, List, [], ◌∷◌, Option, find, bytes_eq, if◌then◌else◌}
use Rattle.frac_keys.specs.Keys.{bytes_less}

-- the item of this id, if there is one
abbrev pub item_of : {X : Type 0} → (X → List ℕ) → List X → List ℕ → Option X
item_of id_of items id = find (λ item. bytes_eq id (id_of item)) items

-- with one more, which takes the place of that of its id
abbrev pub with_item : {X : Type 0} → (X → List ℕ) → X → List X → List X
with_item id_of x [] = x ∷ []
with_item id_of x (y ∷ ys) =
    if bytes_less (id_of y) (id_of x) then y ∷ with_item id_of x ys
    else (if bytes_eq (id_of x) (id_of y) then x ∷ ys else x ∷ y ∷ ys)
