-- An element that comes to a view, or goes. This project's own.
use Rattle.std.specs.Prelude.{◌≡◌, ℕ, zero, suc, ◌+◌, ◌<◌, ◌≤◌, List, [], ◌∷◌, length, true, not, ◌&&◌, Some, None, All, bytes_eq, filter, filter_map, map, slice_index_or, if◌then◌else◌}
use Rattle.std.specs.List.{IsDistinct}
use Rattle.frac_keys.specs.Rising.{are_rising}
use Rattle.elem.specs.ElementValue.{ElementValue}
use Rattle.elem_store.specs.Updates.{element_of, ids_of, is_among}
use Rattle.view.specs.Settled.{settled}
use Rattle.index_repair.specs.Keyed.{with_index}
use Rattle.view.specs.Shown.{as_stored, comes_before, in_scene_order, without_index}
use Rattle.kept_view.specs.declared.places.Put.{Put}
use Rattle.kept_view.specs.inner.Putting.{puts_of, IsInPlace}
use Rattle.kept_view.specs.inner.Reached.{AreStartedBy, AreSurrounded, HasNamers, HaveReached}
use Rattle.kept_view.specs.inner.Replacing.{element_after}

-- The element of an id is gone, and all others are as they were.
pub record HasGone (live : List ElementValue) (id : List ℕ)
    (after : List ElementValue) : Type 0 where
  pub ordered : are_rising (ids_of after) ≡ true
  pub each : (other : List ℕ)
      → element_of after other ≡ (if bytes_eq other id then None else element_of live other)

-- the shown elements as they are stored
abbrev pub all_stored : List ElementValue → List ElementValue → List ElementValue
all_stored live drawn = map (as_stored live) drawn

-- An element comes behind what stands before a place of elements in scene order, and before what
-- stands there.
pub record IsPlaceFor (elements : List ElementValue) (e : ElementValue) (place : ℕ) : Type 0 where
  pub within : place ≤ length elements
  pub before : (i : ℕ) (d : ElementValue) → i + 1 ≡ place
      → comes_before (slice_index_or elements i d) e ≡ true
  pub behind : (d : ElementValue) → place < length elements
      → comes_before e (slice_index_or elements place d) ≡ true

-- These are the ids but for one, each once.
pub record AreOthers (id : List ℕ) (ids others : List (List ℕ)) : Type 0 where
  pub apart : IsDistinct bytes_eq others
  pub each : (other : List ℕ)
      → is_among others other ≡ (not (bytes_eq other id) && is_among ids other)

-- What is near an element and all that name it, and what surrounds that.
pub record AreAround (live : List ElementValue) (e : ElementValue)
    (near wide : List (List ℕ)) : Type 0 where
  pub start : List (List ℕ)
  pub started : AreStartedBy start (e ∷ [])
  pub namers : HasNamers live start e.id
  pub reached : HaveReached live start near
  pub surrounded : AreSurrounded live (e ∷ []) near wide

-- Those of the elements that are near, but for one, are put where they are shown, with the keys
-- that they are shown with.
pub record ArePutBeside (drawn part : List ElementValue) (near : List (List ℕ)) (id : List ℕ)
    (puts : List Put) : Type 0 where
  pub others : List (List ℕ)
  pub are : AreOthers id near others
  pub placed : All (IsInPlace drawn) puts
  pub drawn_others : map without_index (puts_of puts) ≡ map without_index
      (filter (λ (e : ElementValue). is_among others e.id) part)

-- the elements of some ids, in scene order and settled, with a new one among them
abbrev pub part_with : List ElementValue → ElementValue → List (List ℕ) → List ElementValue
part_with live e wide = settled (in_scene_order (filter_map (element_after live (e ∷ [])) wide))

abbrev pub part_of_ids : List ElementValue → List (List ℕ) → List ElementValue
part_of_ids live ids = settled (in_scene_order (filter_map (element_after live []) ids))

-- What is shown anew where an element comes: itself, and what is near it.
pub record IsComing (live drawn : List ElementValue) (e own : ElementValue)
    (puts : List Put) : Type 0 where
  pub near : List (List ℕ)
  pub wide : List (List ℕ)
  pub around : AreAround live e near wide
  pub found : element_of (part_with live e wide) e.id ≡ Some own
  pub beside : ArePutBeside drawn (part_with live e wide) near e.id puts

-- What is shown anew where an element goes: what is near it.
pub record IsGoing (live drawn : List ElementValue) (e : ElementValue)
    (puts : List Put) : Type 0 where
  pub near : List (List ℕ)
  pub wide : List (List ℕ)
  pub around : AreAround live e near wide
  pub others : List (List ℕ)
  pub are : AreOthers e.id wide others
  pub beside : ArePutBeside drawn (part_of_ids live others) near e.id puts

-- elements with other keys from a place on
abbrev pub rekeyed : ℕ → List (List ℕ) → List ElementValue → List ElementValue
rekeyed zero keys [] = []
rekeyed zero [] (e ∷ elements) = e ∷ elements
rekeyed zero (key ∷ keys) (e ∷ elements) = with_index e key ∷ rekeyed zero keys elements
rekeyed (suc start) keys [] = []
rekeyed (suc start) keys (e ∷ elements) = e ∷ rekeyed start keys elements
