-- Elements with their places in an array. What is dropped is this project's own.
use Rattle.std.specs.Prelude.{◌≡◌, ◌⊎◌, ℕ, suc, List, [], ◌∷◌, ◌++◌, true, Option, Some, None, map, if◌then◌else◌}
use Rattle.elem.specs.ElementValue.{ElementValue}
use Rattle.elem.specs.Order.{HaveDistinctIds}
use Rattle.elem_read.specs.Reading.{IsElementIn, IsSelection}
use Rattle.copies.specs.Copies.{is_among}
use Rattle.clips.specs.declared.placed.Placed.{Placed}

-- the elements, and their places
abbrev pub elements_in : List Placed → List ElementValue
elements_in placed = map (λ (p : Placed). p.element) placed

abbrev pub places_in : List Placed → List ℕ
places_in placed = map (λ (p : Placed). p.place) placed

-- Each value is read as an element at its place, of which the first is given; one of type
-- `selection` is dropped.
abbrev pub AreReadFrom : ℕ → List (List ℕ) → List Placed → Type 0
AreReadFrom place [] placed = placed ≡ []
AreReadFrom place (value ∷ values) placed =
    (IsSelection value × AreReadFrom (suc place) values placed)
    ⊎ ((p : Placed) × (others : List Placed) × (placed ≡ p ∷ others) × (p.place ≡ place)
    × IsElementIn value p.element
    × AreReadFrom (suc place) values others)

-- The place of the first of these elements that has the id of one before it, or of one that was
-- seen before them.
abbrev pub repeat_after : List ElementValue → List Placed → Option ℕ
repeat_after seen [] = None
repeat_after seen (p ∷ placed) = if is_among seen p.element.id then Some p.place else repeat_after
    (seen ++ p.element ∷ []) placed

-- the place of the first element that has the id of an earlier one
abbrev pub first_repeat : List Placed → Option ℕ
first_repeat placed = repeat_after [] placed

-- The element at this place has the id of an earlier one, and those before it have distinct ids.
pub record IsFirstRepeat (placed : List Placed) (place : ℕ) : Type 0 where
  pub before : List Placed
  pub again : Placed
  pub after : List Placed
  pub parts : placed ≡ before ++ again ∷ after
  pub place_is : place ≡ again.place
  pub distinct : HaveDistinctIds (elements_in before)
  pub repeated : is_among (elements_in before) again.element.id ≡ true
