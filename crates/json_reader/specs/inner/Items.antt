-- Numbers in arrays, with what stands behind each. Only contracts of private functions cite this.
-- This project's own, over the grammar of RFC 8259.
use Rattle.std.specs.Prelude.{◌≡◌, ℕ, ◌≤◌, List, [], ◌∷◌, ◌++◌, Bool, true, false, length}
use Rattle.std.specs.List.{AllByRecursion}
use Rattle.json_reader.specs.inner.Machine.{Machine, Part, IsWholeNumber}
use Rattle.json_reader.specs.inner.Runs.{RunsOn}
use Rattle.json_reader.specs.inner.Writing.{stretch}

-- a number, and whether its array ends behind it and another one is opened
pub record Item : Type 0 where
  pub number : List ℕ
  pub opens : Bool

-- what stands behind the number: `],[` or a comma
abbrev pub behind : Bool → List ℕ
behind true = 93 ∷ 44 ∷ 91 ∷ []
behind false = 44 ∷ []

abbrev pub item_spelling : Item → List ℕ
item_spelling item = item.number ++ behind item.opens

-- how items are spelled, the last of which stands first in this list
abbrev pub items_spelling : List Item → List ℕ
items_spelling [] = []
items_spelling (item ∷ before) = items_spelling before ++ item_spelling item

-- an array was opened with the last item, or, where there is none, before
abbrev pub opened_by : Bool → List Item → Bool
opened_by opened [] = opened
opened_by opened (item ∷ before) = item.opens

-- These bytes are a number that may end behind them.
abbrev pub IsComplete : List ℕ → Type 0
IsComplete number = (last : Part) × IsWholeNumber last number

-- These bytes are an item, with which an array is opened or isn't.
pub record IsItem (bytes : List ℕ) (opens : Bool) : Type 0 where
  pub number : List ℕ
  pub complete : IsComplete number
  pub is : bytes ≡ number ++ behind opens

-- These bytes are items, and whether an array was opened last is told before them and behind them.
pub record AreItems (before : Bool) (bytes : List ℕ) (after : Bool) : Type 0 where
  pub items : List Item
  pub complete : AllByRecursion (λ item. IsComplete item.number) items
  pub is : bytes ≡ items_spelling items
  pub last : after ≡ opened_by before items

-- The machine has gone on over the items between two offsets.
pub record HasPassedItems (bytes : List ℕ) (at end : ℕ) (old new : Machine) : Type 0 where
  pub within : (at ≤ end) × (end ≤ length bytes)
  pub ran : RunsOn old (stretch bytes at end) new
  pub before : Bool
  pub after : Bool
  pub items : AreItems before (stretch bytes at end) after
