-- One step: an entry is taken back from the stored elements. This project's own, after Excalidraw's
-- history.
use Rattle.std.specs.Prelude.{◌≡◌, ◌≢◌, ◌⊎◌, ℕ, List, true, false, Some, Contains}
use Rattle.frac_keys.specs.Keys.{bytes_less}
use Rattle.frac_keys.specs.Rising.{are_rising}
use Rattle.elem.specs.ElementValue.{ElementValue}
use Rattle.elem.specs.Facts.{IsElement, greatest_whole}
use Rattle.elem.specs.Order.{unstamped}
use Rattle.elem.specs.Stamp.{stamped}
use Rattle.elem_store.specs.Updates.{element_of, ids_of}
use Rattle.delta.specs.Applied.{IsApplied, KeepsStamp}
use Rattle.delta.specs.Delta.{Delta}
use Rattle.delta.specs.Pairs.{EntryStandsFor, pairs_from}
use Rattle.delta.specs.Parts.{inverse}

-- The inverse of a part makes this element of another one.
pub record Reverts (part : Delta) (now reverted : ElementValue) : Type 0 where
  pub is_element : IsElement reverted
  pub kept : KeepsStamp now reverted
  pub applied : IsApplied (inverse part) now reverted

-- the two differ outside the stamp
abbrev pub Differ : ElementValue → ElementValue → Type 0
Differ now reverted = unstamped now ≢ unstamped reverted

-- Applying the inverse of a part changes an element, outside the stamp, that is live before or
-- after.
abbrev pub IsSeenPart : Delta → ElementValue → Type 0
IsSeenPart part now =
    (reverted : ElementValue) × Reverts part now reverted × Differ now reverted
    × ((now.deleted ≡ false) ⊎ (reverted.deleted ≡ false))

-- This is the stored element of the id of an entry's part.
pub record IsNow (parts : List Delta) (store : List ElementValue) (part : Delta)
    (now : ElementValue) : Type 0 where
  pub among : Contains parts part
  pub stored : element_of store part.id ≡ Some now

-- An entry is seen on a store: applying its inverted parts changes, outside the stamp, an element
-- that is live before or after.
abbrev pub IsSeen : List ElementValue → List Delta → Type 0
IsSeen store parts =
    (part : Delta) × (now : ElementValue) × IsNow parts store part now × IsSeenPart part now

-- The element is what the inverse of a part makes of the stored element, stamped, and differs from
-- that.
pub record IsGivenByPart (parts : List Delta) (store : List ElementValue) (time nonce : ℕ)
    (e : ElementValue) : Type 0 where
  pub part : Delta
  pub now : ElementValue
  pub reverted : ElementValue
  pub at : IsNow parts store part now
  pub reverts : Reverts part now reverted
  pub differs : Differ now reverted
  pub is : e ≡ stamped time nonce reverted

-- What the inverse of the part makes of the stored element is that one but for the stamp, or is
-- given, stamped.
pub record PartHasGiven (parts : List Delta) (store : List ElementValue) (time nonce : ℕ)
    (given : List ElementValue) (part : Delta) : Type 0 where
  pub now : ElementValue
  pub reverted : ElementValue
  pub at : IsNow parts store part now
  pub reverts : Reverts part now reverted
  pub comes : (unstamped now ≡ unstamped reverted) ⊎ Contains given (stamped time nonce reverted)

-- The elements that a step gives: of each part's id what the inverse of the part makes of the
-- stored element, stamped, if it differs; in the order of their ids.
pub record AreGiven (parts : List Delta) (store : List ElementValue) (time nonce : ℕ)
    (given : List ElementValue) : Type 0 where
  pub ordered : are_rising (ids_of given) ≡ true
  pub each : (e : ElementValue) → Contains given e → IsGivenByPart parts store time nonce e
  pub all : (part : Delta) → Contains parts part → PartHasGiven parts store time nonce given part

-- The stored element would change, and stands at the greatest version.
abbrev pub IsFull : Delta → ElementValue → Type 0
IsFull part now =
    (reverted : ElementValue) × Reverts part now reverted × Differ now reverted
    × (now.version ≡ greatest_whole)

-- the stored element of this id would change, and stands at the greatest version
abbrev pub IsFullId : List Delta → List ElementValue → List ℕ → Type 0
IsFullId parts store id =
    (part : Delta) × (now : ElementValue) × IsNow parts store part now × IsFull part now
    × (part.id ≡ id)

-- It is the least of such ids.
pub record IsLeastFull (parts : List Delta) (store : List ElementValue) (id : List ℕ) : Type 0 where
  pub full : IsFullId parts store id
  pub least : (other : List ℕ) → IsFullId parts store other → bytes_less other id ≡ false

-- The step that takes an entry back gives these elements, and another entry is that of their
-- changes. No version is full.
pub record IsStep (parts : List Delta) (store : List ElementValue) (time nonce : ℕ)
    (given : List ElementValue) (made : List Delta) : Type 0 where
  pub gives : AreGiven parts store time nonce given
  pub undoes : EntryStandsFor made (pairs_from (element_of store) given)
  pub none_full : (id : List ℕ) → ¬ (IsFullId parts store id)
