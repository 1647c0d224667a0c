-- Elements that are told by where they stand in a store. This project's own.
use Rattle.std.specs.Prelude.{◌≡◌, ℕ, List, Some, All, map, slice_get}
use Rattle.elem.specs.ElementValue.{ElementValue}
use Rattle.view.specs.declared.order.SortedSpot.{SortedSpot}

abbrev pub element_at : SortedSpot → ElementValue
element_at spot = spot.element.now

abbrev pub elements_of : List SortedSpot → List ElementValue
elements_of spots = map element_at spots

-- where the elements stand in their store
abbrev pub indices_of : List SortedSpot → List ℕ
indices_of spots = map (λ (spot : SortedSpot). spot.at) spots

-- At the index of the spot its element is stored, and so for each spot.
abbrev pub IsSpotIn : List ElementValue → SortedSpot → Type 0
IsSpotIn stored spot = slice_get stored spot.at ≡ Some (element_at spot)

abbrev pub AreSpotsIn : List ElementValue → List SortedSpot → Type 0
AreSpotsIn stored spots = All (IsSpotIn stored) spots
