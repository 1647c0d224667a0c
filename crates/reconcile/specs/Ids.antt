-- Ids that are held: updates for them aren't taken. This project's own.
use Rattle.std.specs.Prelude.{◌≡◌, ℕ, List, Bool, not, ◌&&◌, ◌||◌, bytes_eq, filter}
use Rattle.std.specs.Cmp.Lexicographic.{slice_cmp}
use Rattle.std.specs.List.Sorted.{IsStrictlySortedBy}
use Rattle.std.specs.Ordering.{nat_cmp}
use Rattle.elem.specs.ElementValue.{ElementValue}
use Rattle.elem_store.specs.Updates.{is_among}

-- Each id is less, by its bytes, than those after it.
abbrev pub AreStrictlySorted : List (List ℕ) → Type 0
AreStrictlySorted ids = IsStrictlySortedBy (slice_cmp nat_cmp) ids

-- The new ids are the old ones and this one.
pub record HasAdded (old : List (List ℕ)) (id : List ℕ) (new : List (List ℕ)) : Type 0 where
  pub ordered : AreStrictlySorted new
  pub each : (other : List ℕ) → is_among new other ≡ (bytes_eq other id || is_among old other)

-- The new ids are the old ones without this one.
pub record HasDropped (old : List (List ℕ)) (id : List ℕ) (new : List (List ℕ)) : Type 0 where
  pub ordered : AreStrictlySorted new
  pub each : (other : List ℕ) → is_among new other ≡ (not (bytes_eq other id) && is_among old other)

-- the elements whose ids aren't held, in their order
abbrev pub free_elements : List (List ℕ) → List ElementValue → List ElementValue
free_elements ids elements = filter (λ (e : ElementValue). not (is_among ids e.id)) elements
