-- The parts of a replica without their room, and what holds of them. This project's own.
-- Only this crate's own bodies and proofs need it.
use Rattle.std.specs.Prelude.{◌≡◌, ℕ, List, true, All}
use Rattle.frac_keys.specs.Rising.{are_rising}
use Rattle.elem.specs.declared.stamp.Stamp.{Stamp}
use Rattle.elem.specs.ElementValue.{ElementValue}
use Rattle.elem.specs.Said.{AreElements}
use Rattle.elem_store.specs.Updates.{ids_of, is_taken, takings}
use Rattle.delta.specs.Delta.{Delta}
use Rattle.delta.specs.Pairs.{EntryStandsFor}
use Rattle.view.specs.Shown.{live_elements}
use Rattle.board_commands.specs.declared.command.Capture.{Capture}
use Rattle.board_commands.specs.declared.command.Capture.TheVariants.{Now, Later, Never}
use Rattle.history.specs.Stacks.{Stacks, StopsAt, noted, side}
use Rattle.history.specs.declared.planned.Direction.{Direction}
use Rattle.history.specs.declared.step.Step.{Step}
use Rattle.history.specs.declared.step.Step.TheVariants.{Done, Nothing}
use Rattle.undo_model.specs.Carrying.{taken_all, carried_all}
use Rattle.undo_model.specs.Differing.{pending}
use Rattle.replica.specs.Boards.{Told, StacksComeBy}

-- The ids of changed elements rise, and each of them becomes stored.
pub record BecomeStored (stored given : List ElementValue) : Type 0 where
  pub rise : are_rising (ids_of given) ≡ true
  pub taken : All (λ e. is_taken stored e ≡ true) given

-- ---- what is stored
-- Updates were taken, and the snapshot and the stacks stay.
pub record HasTakenAll (old : Told) (list : List ElementValue) (new : Told) : Type 0 where
  pub elements : AreElements list
  pub stored : new.stored ≡ taken_all list old.stored
  pub view : new.view ≡ live_elements (taken_all list old.stored)
  pub snapshot : new.snapshot ≡ old.snapshot
  pub stacks : new.stacks ≡ old.stacks

-- Updates were taken, and carried into the snapshot.
pub record HasCarriedAll (old : Told) (list : List ElementValue) (new : Told) : Type 0 where
  pub elements : AreElements list
  pub stored : new.stored ≡ taken_all list old.stored
  pub view : new.view ≡ live_elements (taken_all list old.stored)
  pub snapshot : new.snapshot ≡ carried_all (takings old.stored list) old.snapshot
  pub stacks : new.stacks ≡ old.stacks

-- Updates were taken, and captured with what was pending.
pub record HasCaptured (old : Told) (list : List ElementValue) (new : Told) : Type 0 where
  pub entry : List Delta
  pub stands : EntryStandsFor entry (pending old.snapshot (taken_all list old.stored))
  pub elements : AreElements list
  pub stored : new.stored ≡ taken_all list old.stored
  pub view : new.view ≡ live_elements (taken_all list old.stored)
  pub snapshot : new.snapshot ≡ taken_all list old.stored
  pub stacks : new.stacks ≡ noted entry old.stacks

-- What a change gave was stored, captured as asked.
abbrev pub HasStoredGiven : Capture → Told → List ElementValue → Told → Type 0
HasStoredGiven Now old given new = HasCaptured old given new
HasStoredGiven Later old given new = HasTakenAll old given new
HasStoredGiven Never old given new = HasCarriedAll old given new

-- ---- a step
-- the stored elements after what a step gave was taken
abbrev pub stored_by : Step → List ElementValue → List ElementValue
stored_by (Done given) stored = taken_all given stored
stored_by Nothing stored = stored

-- What a step gives becomes stored.
abbrev pub GivesTaken : List ElementValue → Step → Type 0
GivesTaken stored (Done given) = BecomeStored stored given
GivesTaken stored Nothing = Unit {0}

abbrev pub GivesElements : Step → Type 0
GivesElements (Done given) = AreElements given
GivesElements Nothing = Unit {0}

-- What a step gave was taken, the snapshot is of what is stored then, and these are the stacks.
pub record HasPutStep (old : Told) (step : Step) (after : Stacks) (new : Told) : Type 0 where
  pub elements : GivesElements step
  pub stored : new.stored ≡ stored_by step old.stored
  pub view : new.view ≡ live_elements (stored_by step old.stored)
  pub snapshot : new.snapshot ≡ stored_by step old.stored
  pub stacks : new.stacks ≡ after

-- One step of undo or redo, from what was pending on.
pub record HasTurned (direction : Direction) (old : Told) (stamp : Stamp) (step : Step)
    (new : Told) : Type 0 where
  pub entry : List Delta
  pub stands : EntryStandsFor entry (pending old.snapshot old.stored)
  pub comes : StacksComeBy direction old.stored stamp step (noted entry old.stacks) new.stacks
  pub put : HasPutStep old step new.stacks new

-- The step of undo or redo stops at the element of this id.
pub record HasStopped (direction : Direction) (old : Told) (id : List ℕ) : Type 0 where
  pub entry : List Delta
  pub stands : EntryStandsFor entry (pending old.snapshot old.stored)
  pub stops : StopsAt old.stored (side direction (noted entry old.stacks)) id
