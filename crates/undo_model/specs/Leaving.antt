-- What a step leaves of what others changed. This project's own, after Excalidraw's history.
use Rattle.std.specs.Prelude.{◌≡◌, ◌≢◌, ◌⊎◌, ℕ, List, Bool, not, ◌&&◌, ◌||◌, Some, Contains, bytes_eq}
use Rattle.elem.specs.ElementValue.{ElementValue}
use Rattle.elem.specs.Listings.{same_listing_entry}
use Rattle.elem_store.specs.Updates.{element_of}
use Rattle.delta.specs.Headers.{scalar_of}
use Rattle.delta.specs.Joined.{is_in}
use Rattle.delta.specs.Pairs.{Pair}
use Rattle.undo_model.specs.Steps.{Sought, sought}

-- whether a list gains an item from before to after; it loses those that it gains from after to
-- before
abbrev pub gains : {T : Type 0} → (T → T → Bool) → List T → List T → T → Bool
gains same before after item = is_in same after item && not (is_in same before item)

-- A list changes item by item, as another one does from before to after: an item is in it now if
-- that one gains it, or if it was in it and that one doesn't lose it.
abbrev pub ChangesByItems : {T : Type 0} → (T → T → Bool) → List T → List T → List T → List T
    → Type 0
ChangesByItems {T} same before after old new =
    (item : T) → is_in same new item
    ≡ (gains same before after item || (is_in same old item && not (gains same after before item)))

-- What undoing a pair leaves of an element: its kind; each member outside the stamp that is the
-- same before and after, or each one if the element is of another kind; and of the two lists all
-- items but those that the pair gained or lost, which it takes and gives back.
pub record Leaves (pair : Pair) (now new : ElementValue) : Type 0 where
  pub kind : new.kind ≡ now.kind
  pub scalars : (name : List ℕ) → (scalar_of pair.before name ≡ scalar_of pair.after name)
      ⊎ (pair.after.kind ≢ now.kind)
      → scalar_of new name ≡ scalar_of now name
  pub groups : (pair.before.groups ≡ pair.after.groups) ⊎ (pair.after.kind ≢ now.kind)
      → new.groups ≡ now.groups
  pub group_items : pair.after.kind ≡ now.kind
      → ChangesByItems bytes_eq pair.after.groups pair.before.groups now.groups new.groups
  pub bound : (pair.before.bound ≡ pair.after.bound) ⊎ (pair.after.kind ≢ now.kind)
      → new.bound ≡ now.bound
  pub bound_items : pair.after.kind ≡ now.kind
      → ChangesByItems same_listing_entry pair.after.bound pair.before.bound now.bound new.bound

-- What taking an entry back leaves of stored elements: each whose id no pair has, and of the others
-- what their pair leaves.
pub record LeavesOthers (entry : List Pair) (old new : List ElementValue) : Type 0 where
  pub apart : (id : List ℕ) → ((pair : Pair) → Contains entry pair → pair.after.id ≢ id)
      → element_of new id ≡ element_of old id
  pub each : (pair : Pair) (now : ElementValue) → Contains entry pair
      → element_of old pair.after.id ≡ Some now
      → (next : ElementValue) × (element_of new pair.after.id ≡ Some next) × Leaves pair now next

-- What a step from this stack leaves: it takes back the entry that is sought, the topmost one that
-- is seen.
pub record StepLeavesOthers (from to : List (List Pair)) (old new : List ElementValue) :
    Type 0 where
  pub seen : Sought
  pub is_sought : sought old from to ≡ Some seen
  pub leaves : LeavesOthers seen.entry old new
