-- What undoing a change makes of an element that others may have changed since. This project's own,
-- after Excalidraw's history.
use Rattle.std.specs.Prelude.{◌≡◌, ◌≢◌, ℕ, List, Bool, Option, bytes_eq, if◌then◌else◌}
use Rattle.elem.specs.ElementValue.{ElementValue}
use Rattle.delta.specs.Applied.{KeepsStamp}
use Rattle.delta.specs.Headers.{scalar_of}
use Rattle.elem.specs.Listings.{same_listing_entry}
use Rattle.delta.specs.Joined.{are_same, joined}
use Rattle.delta.specs.Parts.{scalars_same}

-- a scalar that differed before and after becomes that of before, or goes where there was none
abbrev pub undone_scalar : Option (List ℕ) → Option (List ℕ) → Option (List ℕ) → Option (List ℕ)
undone_scalar before after now = if scalars_same before after then now else before

-- A list that differed changes back, item by item.
abbrev pub undone_list : {T : Type 0} → (T → T → Bool) → List T → List T → List T → List T
undone_list same before after now =
    if are_same same before after then now else joined same after before now

-- Each member outside the stamp in which before and after differ is undone, and the others stay.
pub record Undoes (before after now result : ElementValue) : Type 0 where
  pub stamp : KeepsStamp now result
  pub scalars : (name : List ℕ) → scalar_of result name
      ≡ undone_scalar (scalar_of before name) (scalar_of after name) (scalar_of now name)
  pub groups : result.groups ≡ undone_list bytes_eq before.groups after.groups now.groups
  pub bound : result.bound ≡ undone_list same_listing_entry before.bound after.bound now.bound

-- The undone element: an element whose kind isn't that of after any more stays.
pub record IsUndone (before after now result : ElementValue) : Type 0 where
  pub undone : after.kind ≡ now.kind → Undoes before after now result
  pub other : after.kind ≢ now.kind → result ≡ now
