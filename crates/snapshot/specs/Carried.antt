-- Changes that are carried into a snapshot, so that they are no part of what is captured next. This
-- project's own, after Excalidraw's store.
use Rattle.std.specs.Prelude.{◌≡◌, ◌≢◌, ℕ, List, true, false, Option, Some, None}
use Rattle.frac_keys.specs.Rising.{are_rising}
use Rattle.elem.specs.ElementValue.{ElementValue}
use Rattle.elem.specs.Facts.{IsElement}
use Rattle.elem.specs.Order.{has_id}
use Rattle.elem_store.specs.Updates.{element_of, ids_of}
use Rattle.delta.specs.Delta.{Delta}
use Rattle.delta.specs.Applied.{IsApplied}
use Rattle.delta.specs.Parts.{PartStandsFor}
use Rattle.undo_model.specs.Differing.{same_kind}

-- the element after the difference of two others was applied to it
pub record IsLed (old new captured result : ElementValue) : Type 0 where
  pub is_element : IsElement result
  pub applied : (part : Delta) × PartStandsFor part old new × IsApplied part captured result

-- What a stored change makes of the element that the snapshot holds of its id, if it holds one. The
-- new element comes where nothing was stored or the kind is another one; else nothing comes where
-- nothing is captured, and else the captured element changes as the stored one did.
pub record IsCarried (captured old : Option ElementValue) (new : ElementValue)
    (result : Option ElementValue) : Type 0 where
  pub created : old ≡ None → result ≡ Some new
  pub other_kind : (stored : ElementValue) → old ≡ Some stored → stored.kind ≢ new.kind
      → result ≡ Some new
  pub absent : (stored : ElementValue) → old ≡ Some stored → stored.kind ≡ new.kind
      → captured ≡ None → result ≡ None
  pub changed : (stored e : ElementValue) → old ≡ Some stored → stored.kind ≡ new.kind
      → captured ≡ Some e
      → (led : ElementValue) × IsLed stored new e led × (result ≡ Some led)

-- The snapshot's element of this id is as it was carried, and the others stay.
pub record HasCarried (before : List ElementValue) (old : Option ElementValue) (new : ElementValue)
    (after : List ElementValue) : Type 0 where
  pub ordered : are_rising (ids_of after) ≡ true
  pub own : IsCarried (element_of before new.id) old new (element_of after new.id)
  pub others : (id : List ℕ) → has_id id new ≡ false → element_of after id ≡ element_of before id

-- Each of these elements has a stored one of its id, which is of its kind.
abbrev pub AreOfStoredKinds : List ElementValue → List ElementValue → Type 0
AreOfStoredKinds elements stored =
    (id : List ℕ) (e : ElementValue) → element_of elements id ≡ Some e → (own : ElementValue)
    × (element_of stored id ≡ Some own) × (same_kind e.kind own.kind ≡ true)
