-- Ids of elements that may be stored otherwise than a snapshot has them. This project's own.
-- Only this crate's own bodies and proofs need it.
use Rattle.std.specs.Prelude.{◌≡◌, ◌⊎◌, ℕ, List, false, Option, Some, None, bytes_eq}
use Rattle.elem.specs.ElementValue.{ElementValue}
use Rattle.elem_store.specs.Updates.{is_among}
use Rattle.undo_model.specs.Carrying.{with_put}
use Rattle.snapshot.specs.Touched.{StillTouches}

-- No new id is touched but this one; none is but those of these elements.
abbrev pub TouchesNoOther : List (List ℕ) → List ℕ → List (List ℕ) → Type 0
TouchesNoOther old id new =
    (other : List ℕ) → is_among old other ≡ false → bytes_eq other id ≡ false
    → is_among new other ≡ false

-- The old ids are among the new ones, and so is this one, and no other one; and so is that of each
-- of these elements.
pub record IsTouched (old : List (List ℕ)) (id : List ℕ) (new : List (List ℕ)) : Type 0 where
  pub still : StillTouches old new
  pub own : (other : List ℕ) → is_among new other ≡ false → bytes_eq other id ≡ false
  pub only : TouchesNoOther old id new

-- What is stored of an id was put among others, unless nothing is or the old element is the same.
abbrev pub HasPutStored : List ElementValue → Option ElementValue → Option ElementValue
    → List ElementValue → Type 0
HasPutStored before old None after = after ≡ before
HasPutStored before old (Some e) after =
    (after ≡ with_put e before) ⊎ ((after ≡ before) × (old ≡ Some e))
