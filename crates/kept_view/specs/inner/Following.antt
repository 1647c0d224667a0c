-- What is stored of some ids, and after changes. This project's own.
use Rattle.std.specs.Prelude.{◌≡◌, ℕ, List, true, Option, Some, None, is_some, if◌then◌else◌}
use Rattle.frac_keys.specs.Rising.{are_rising}
use Rattle.elem.specs.ElementValue.{ElementValue}
use Rattle.elem_store.specs.Updates.{element_of, ids_of, is_among}
use Rattle.undo_model.specs.Carrying.{taken_all}
use Rattle.view.specs.Shown.{is_live}
use Rattle.kept_view.specs.inner.Replacing.{element_after}

-- These are the stored elements of the ids, in the order of their ids; each of these is stored.
pub record ArePicked (stored : List ElementValue) (ids : List (List ℕ))
    (news : List ElementValue) : Type 0 where
  pub ordered : are_rising (ids_of news) ≡ true
  pub each : (id : List ℕ)
      → element_of news id ≡ (if is_among ids id then element_of stored id else None)
  pub there : (id : List ℕ) → is_among ids id ≡ true → is_some (element_of stored id) ≡ true

-- These, in the order of their ids, are in place of the stored ones what is stored after changed
-- elements were taken.
pub record AreTaken (stored changed news : List ElementValue) : Type 0 where
  pub ordered : are_rising (ids_of news) ≡ true
  pub each : (id : List ℕ) → element_of (taken_all changed stored) id ≡ element_after stored news id

-- the element of an id after one of it came, changed or was deleted
abbrev pub followed : Option ElementValue → Option ElementValue → Option ElementValue
followed None old = old
followed (Some new) old = if is_live new then Some new else None

-- The live elements of new ones' ids are these, if they are live, and all others are as they were.
pub record HaveFollowed (live news after : List ElementValue) : Type 0 where
  pub ordered : are_rising (ids_of after) ≡ true
  pub each : (id : List ℕ)
      → element_of after id ≡ followed (element_of news id) (element_of live id)
