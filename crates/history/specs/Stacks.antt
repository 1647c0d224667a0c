-- What can be undone and redone. This project's own, after Excalidraw's history.
use Rattle.std.specs.Prelude.{◌≡◌, ℕ, ◌+◌, ◌-◌, ◌<◌, min, List, [], ◌∷◌, ◌++◌, Option, Some, None, IfSome, length, take, drop, map, reverse, Contains, IsSome}
use Rattle.board_base.specs.declared.stop.Stop.{Stop}
use Rattle.board_base.specs.declared.stop.Stop.TheVariants.{Fault, Memory}
use Rattle.elem.specs.declared.stamp.Stamp.{Stamp}
use Rattle.elem.specs.ElementValue.{ElementValue}
use Rattle.elem_store.specs.Updates.{element_of}
use Rattle.delta.specs.Delta.{Delta}
use Rattle.delta.specs.Parts.{inverses}
use Rattle.delta.specs.declared.stamping.VersionFull.{VersionFull}
use Rattle.history.specs.declared.planned.Direction.{Direction}
use Rattle.history.specs.declared.planned.Direction.TheVariants.{Undo, Redo}
use Rattle.history.specs.declared.planned.HistoryStep.{HistoryStep}
use Rattle.history.specs.Steps.{IsStep, IsLeastFull, IsSeen}

-- the entries of a history, the next one to undo or to redo last
pub record Stacks : Type 0 where
  pub undo : List (List Delta)
  pub redo : List (List Delta)

-- of two the one for undo, or the one for redo
abbrev pub chosen : {X : Type 0} → Direction → X → X → X
chosen Undo undo redo = undo
chosen Redo undo redo = redo

abbrev pub other : Direction → Direction
other direction = chosen direction Redo Undo

-- the stack that a step is from
abbrev pub side : Direction → Stacks → List (List Delta)
side direction stacks = chosen direction stacks.undo stacks.redo

-- A history as contracts see it: its stacks, each of which has room for the entries of both and so
-- many more. "As before" is said of the stacks: room may have grown.
pub record Recorded : Type 0 where
  pub stacks : Stacks
  pub spare : ℕ

-- how many more entries fit in so much room for either stack, of which both together have so many
abbrev pub spare_in : ℕ → ℕ → ℕ → ℕ
spare_in undo_room redo_room count = min undo_room redo_room - count

-- Each id of an entry is stored, and of each entry of a stack.
abbrev pub HasStoredIds : List ElementValue → List Delta → Type 0
HasStoredIds store parts = (part : Delta) → Contains parts part → IsSome (element_of store part.id)

abbrev pub HaveStoredIds : List ElementValue → List (List Delta) → Type 0
HaveStoredIds store stack = (parts : List Delta) → Contains stack parts → HasStoredIds store parts

-- An entry that isn't empty is the next one to undo, and nothing can be redone; an empty one
-- changes nothing.
abbrev pub with_entry : List Delta → List (List Delta) → List (List Delta)
with_entry [] stack = stack
with_entry (part ∷ parts) stack = stack ++ (part ∷ parts) ∷ []

abbrev pub redo_left : List Delta → List (List Delta) → List (List Delta)
redo_left [] stack = stack
redo_left (part ∷ parts) stack = []

abbrev pub noted : List Delta → Stacks → Stacks
noted entry stacks =
    record { undo = with_entry entry stacks.undo; redo = redo_left entry stacks.redo }

-- None of these entries is seen on the store.
abbrev pub AreUnseen : List ElementValue → List (List Delta) → Type 0
AreUnseen store stack = (parts : List Delta) → Contains stack parts → ¬ (IsSeen store parts)

-- The topmost entry of a stack that is seen, what is below it and what is above it.
pub record IsTopmostSeen (store : List ElementValue) (stack below : List (List Delta))
    (parts : List Delta) (above : List (List Delta)) : Type 0 where
  pub split : stack ≡ below ++ parts ∷ above
  pub seen : IsSeen store parts
  pub unseen : AreUnseen store above

-- One step took the topmost entry that is seen from one stack. Those above it went to the other
-- stack one after another, inverted, and on them one that takes the step back.
pub record HasStepped (store : List ElementValue) (time nonce : ℕ) (given : List ElementValue)
    (from to below grown : List (List Delta)) : Type 0 where
  pub parts : List Delta
  pub above : List (List Delta)
  pub made : List Delta
  pub topmost : IsTopmostSeen store from below parts above
  pub pushed : grown ≡ to ++ (map inverses (reverse above) ++ made ∷ [])
  pub step : IsStep parts store time nonce given made

-- One undo, or one redo, from the stacks before to those after.
abbrev pub HasTakenBack : Direction → List ElementValue → Stamp → List ElementValue → Stacks
    → Stacks → Type 0
HasTakenBack direction store stamp given old new =
    HasStepped store stamp.time stamp.nonce given (side direction old) (side (other direction) old)
    (side direction new) (side (other direction) new)

-- The topmost entry of a stack that is seen would change the element of this id, which stands at
-- the greatest version, and no lesser one.
pub record StopsAt (store : List ElementValue) (stack : List (List Delta))
    (id : List ℕ) : Type 0 where
  pub below : List (List Delta)
  pub parts : List Delta
  pub above : List (List Delta)
  pub topmost : IsTopmostSeen store stack below parts above
  pub full : IsLeastFull parts store id

-- a fact about the id that a fault names
abbrev pub OnFull : Stop VersionFull → (List ℕ → Type 0) → Type 0
OnFull (Fault full) P = P full.0
OnFull Memory P = Unit

-- ---- a step that was planned
-- a stack without its last entries, and these
abbrev pub below_last : ℕ → List (List Delta) → List (List Delta)
below_last count stack = take (length stack - count) stack

abbrev pub last_of : ℕ → List (List Delta) → List (List Delta)
last_of count stack = drop (length stack - count) stack

-- the other stack once so many entries went to it and one that was made
abbrev pub grown_by : ℕ → List Delta → List (List Delta) → List (List Delta) → List (List Delta)
grown_by passed made from to = to ++ (map inverses (reverse (last_of passed from)) ++ made ∷ [])

abbrev pub stepped : Direction → ℕ → Option (List Delta) → Stacks → Stacks
stepped direction passed None stacks = stacks
stepped Undo passed (Some made) stacks =
    record {
      undo = below_last (passed + 1) stacks.undo;
      redo =
          grown_by passed made stacks.undo stacks.redo;
    }
stepped Redo passed (Some made) stacks =
    record {
      undo = grown_by passed made stacks.redo stacks.undo;
      redo =
          below_last (passed + 1) stacks.redo;
    }

-- The stacks once a planned step is put: the pending entry is noted; where an entry was made, the
-- entries that are passed over go to the other stack one after another, inverted, the next one
-- goes, and the made one is put on the other stack.
abbrev pub put_step : HistoryStep → Stacks → Stacks
put_step step stacks = stepped step.direction step.passed step.made (noted step.pending stacks)

-- Where an entry was made, the stack has more entries than are passed over, once the pending one is
-- noted.
abbrev pub FitsIn : HistoryStep → Stacks → Type 0
FitsIn step stacks =
    IfSome step.made (λ made. step.passed < length
    (side step.direction (noted step.pending stacks)))
