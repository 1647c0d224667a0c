-- Ids of elements that may be stored otherwise than a snapshot has them. This project's own.
use Rattle.std.specs.Prelude.{◌≡◌, ℕ, List, false, None}
use Rattle.elem.specs.ElementValue.{ElementValue}
use Rattle.elem_store.specs.Updates.{element_of, is_among}

-- Of each id that isn't among these a snapshot has what is stored, or neither has an element.
abbrev pub AreUntouched : List (List ℕ) → List ElementValue → List ElementValue → Type 0
AreUntouched ids snapshot stored =
    (id : List ℕ) → is_among ids id ≡ false → element_of snapshot id ≡ element_of stored id

-- The old ids are among the new ones.
abbrev pub StillTouches : List (List ℕ) → List (List ℕ) → Type 0
StillTouches old new = (id : List ℕ) → is_among new id ≡ false → is_among old id ≡ false

abbrev pub TouchesOnly : List (List ℕ) → List ElementValue → List (List ℕ) → Type 0
TouchesOnly old list new =
    (id : List ℕ) → is_among old id ≡ false → element_of list id ≡ None → is_among new id ≡ false

pub record HasTouched (old : List (List ℕ)) (list : List ElementValue)
    (new : List (List ℕ)) : Type 0 where
  pub still : StillTouches old new
  pub listed : (id : List ℕ) → is_among new id ≡ false → element_of list id ≡ None
  pub only : TouchesOnly old list new
