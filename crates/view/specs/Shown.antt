-- What a board shows of its stored elements. The order of ids and the repair are this project's
-- own.
use Rattle.std.specs.Prelude.{◌≡◌, ℕ, List, [], ◌∷◌, Bool, true, false, not, ◌&&◌, ◌||◌, Option, Some, None, filter, map, bytes_eq, if◌then◌else◌, AllPairs, IsPermutation}
use Rattle.std.specs.List.{list_all}
use Rattle.std.specs.Option.{unwrap_or}
use Rattle.frac_keys.specs.Keys.{bytes_less}
use Rattle.frac_keys.specs.Rising.{are_rising}
use Rattle.index_repair.specs.Keyed.{index_of, keyed, HaveKeysOrNone}
use Rattle.index_repair.specs.Repair.{repaired}
use Rattle.elem.specs.ElementValue.{ElementValue}
use Rattle.elem_store.specs.Updates.{element_of, ids_of}
use Rattle.view.specs.Settled.{settled, unsettled}

-- the live elements: those that aren't deleted
abbrev pub is_live : ElementValue → Bool
is_live e = not e.deleted

abbrev pub live_elements : List ElementValue → List ElementValue
live_elements elements = filter is_live elements

-- whether an index and an id come before another index and id: by index, none last, and then by id
abbrev pub place_less : Option (List ℕ) → List ℕ → Option (List ℕ) → List ℕ → Bool
place_less None id None other = bytes_less id other
place_less None id (Some other_index) other = false
place_less (Some index) id None other = true
place_less (Some index) id (Some other_index) other =
    bytes_less index other_index || (bytes_eq index other_index && bytes_less id other)

-- whether an element comes before another one
abbrev pub comes_before : ElementValue → ElementValue → Bool
comes_before e other = place_less e.index e.id other.index other.id

-- elements in an order and one more, which goes before the first that doesn't come before it
abbrev pub with_element : (ElementValue → ElementValue → Bool) → ElementValue → List ElementValue
    → List ElementValue
with_element before e [] = e ∷ []
with_element before e (other ∷ others) =
    if before other e then other ∷ with_element before e others else e
    ∷ other ∷ others

-- the elements in an order
abbrev pub in_order : (ElementValue → ElementValue → Bool) → List ElementValue → List ElementValue
in_order before [] = []
in_order before (e ∷ elements) = with_element before e (in_order before elements)

-- the elements in scene order, and in the order of their ids
abbrev pub in_scene_order : List ElementValue → List ElementValue
in_scene_order elements = in_order comes_before elements

abbrev pub in_id_order : List ElementValue → List ElementValue
in_id_order elements = in_order (λ e other. bytes_less e.id other.id) elements

-- each element comes before those behind it
abbrev pub AreInSceneOrder : List ElementValue → Type 0
AreInSceneOrder elements = AllPairs (λ e other. comes_before e other ≡ true) elements

-- They are the elements in scene order: the one permutation in which each comes before those behind
-- it.
pub record IsSceneOrder (elements ordered : List ElementValue) : Type 0 where
  pub moved : IsPermutation elements ordered
  pub in_order : AreInSceneOrder ordered
  pub only : (others : List ElementValue) → IsPermutation elements others → AreInSceneOrder others
      → others ≡ ordered

-- the live elements in scene order, with repaired keys
unfoldable pub placed : List ElementValue → List ElementValue
placed live = let ordered = in_scene_order live in keyed ordered (repaired (map index_of ordered))

-- what a board shows of its live elements: they are placed, and then their links, frames and groups
-- are settled
unfoldable pub shown : List ElementValue → List ElementValue
shown live = settled (placed live)

-- the element without its key, and without that and what settling may change
abbrev pub without_index : ElementValue → ElementValue
without_index e = record e { index = None }

abbrev pub bare : ElementValue → ElementValue
bare e = unsettled (without_index e)

-- a shown element as it is stored: the original of its id, or itself where there is none
abbrev pub as_stored : List ElementValue → ElementValue → ElementValue
as_stored originals e = unwrap_or (element_of originals e.id) e

-- the shown elements as they are stored, in the order of their ids
abbrev pub all_as_stored : List ElementValue → List ElementValue → List ElementValue
all_as_stored originals elements = in_id_order (map (as_stored originals) elements)

-- These elements are what is shown of the live ones, which are in the order of their ids.
pub record IsView (live elements : List ElementValue) : Type 0 where
  pub exact : elements ≡ shown live
  pub ordered : are_rising (ids_of live) ≡ true
  pub all_live : list_all is_live live ≡ true
  pub keys : HaveKeysOrNone live
