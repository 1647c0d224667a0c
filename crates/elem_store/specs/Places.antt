-- How a store keeps its elements: as they came, beside their places in the order of their ids. This
-- project's own.
use Rattle.std.specs.Prelude.{◌≡◌, ℕ, ◌-◌, min, ◌<◌, ◌≤◌, List, true, All, length, take, drop, filter_map, slice_get, IsSomeAnd}
use Rattle.frac_keys.specs.Keys.{bytes_less}
use Rattle.frac_keys.specs.Rising.{are_rising}
use Rattle.elem.specs.ElementValue.{ElementValue}
use Rattle.elem_store.specs.Updates.{ids_of}

-- the elements at these places
abbrev pub elements_at : List ElementValue → List ℕ → List ElementValue
elements_at elements places = filter_map (slice_get elements) places

-- how many more elements fit in so much room, of which so much is taken, where so many more places
-- do
abbrev pub spare_in : ℕ → ℕ → ℕ → ℕ
spare_in room count spare = min (room - count) spare

-- There are as many places as elements, each within the list, and the ids rise along them, so that
-- no place comes twice.
pub record AreInOrder (elements : List ElementValue) (places : List ℕ) : Type 0 where
  pub within : All (λ place. place < length elements) places
  pub full : length places ≡ length elements
  pub ordered : are_rising (ids_of (elements_at elements places)) ≡ true

-- the element at the index has the id
abbrev pub IsAt : List ElementValue → List ℕ → ℕ → Type 0
IsAt elements id i = IsSomeAnd (slice_get elements i) (λ e. e.id ≡ id)

-- the id would stand at the index: lesser ids before it, greater ones from it on
pub record IsGapFor (elements : List ElementValue) (id : List ℕ) (i : ℕ) : Type 0 where
  pub in_range : i ≤ length elements
  pub less_before : All (λ (e : ElementValue). bytes_less e.id id ≡ true) (take i elements)
  pub greater_after : All (λ (e : ElementValue). bytes_less id e.id ≡ true) (drop i elements)
