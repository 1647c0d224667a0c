-- Runs of a durable room, each resumed from what a stop left of the one before. This project's own.
use Rattle.std.specs.Prelude.{◌≡◌, ◌⊎◌, List, [], ◌∷◌, ◌++◌, true, flat_map, Contains, Ok}
use Rattle.elem.specs.ElementValue.{ElementValue}
use Rattle.elem.specs.Order.{beats}
use Rattle.scene_file.specs.Heads.{Heading}
use Rattle.room_disk.specs.Keeping.{Account, IsStopAnswer, messages_heard, messages_told}
use Rattle.room_disk.specs.Recovering.{Recovered}
use Rattle.room_disk.specs.Resuming.{resumed}

-- A run: what it opened with, and what was made of what its links told.
pub record Run : Type 0 where
  pub head : Heading
  pub stored : List ElementValue
  pub account : Account

-- The run opened with what was recovered: the head, and the stored elements, each with a key.
pub record IsResumedFrom (found : Recovered) (run : Run) : Type 0 where
  pub head : run.head ≡ found.head
  pub stored : run.stored ≡ resumed found.elements

-- This was recovered of what a stop left of the run.
abbrev pub IsFoundOf : Run → Recovered → Type 0
IsFoundOf run found =
    IsStopAnswer run.head run.stored (messages_heard run.account) (messages_told run.account)
    (Ok found)

-- Each run was resumed from what was recovered of the one before it, the first one from this; and
-- that was recovered of the last one.
abbrev pub AreChained : Recovered → List Run → Recovered → Type 0
AreChained first [] last = last ≡ first
AreChained first (run ∷ runs) last =
    IsResumedFrom first run × ((found : Recovered) × IsFoundOf run found
    × AreChained found runs last)

-- the updates of which a text was tried in a run
abbrev pub told_in : Run → List ElementValue
told_in run = flat_map (λ (elements : List ElementValue). elements) (messages_told run.account)

-- all updates that were kept: what the first run was resumed from, and the updates that were told
-- in any of them
abbrev pub kept_in : Recovered → List Run → List ElementValue
kept_in first runs = first.elements ++ flat_map told_in runs

-- The update is among the elements, or one of its id that beats it.
abbrev pub IsKeptIn : List ElementValue → ElementValue → Type 0
IsKeptIn elements e =
    (found : ElementValue) × Contains elements found × (found.id ≡ e.id)
    × ((found ≡ e) ⊎ (beats found e ≡ true))
