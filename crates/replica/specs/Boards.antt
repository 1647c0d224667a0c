-- The parts of a replica without their room, and what holds of them. This project's own.
use Rattle.std.specs.Prelude.{◌≡◌, ℕ, List, true, IsSome}
use Rattle.frac_keys.specs.Rising.{are_rising}
use Rattle.elem.specs.declared.stamp.Stamp.{Stamp}
use Rattle.elem.specs.ElementValue.{ElementValue}
use Rattle.elem.specs.Said.{AreElements}
use Rattle.elem_store.specs.Updates.{element_of, ids_of}
use Rattle.delta.specs.Delta.{Delta}
use Rattle.delta.specs.Pairs.{EntryStandsFor}
use Rattle.view.specs.Shown.{live_elements}
use Rattle.history.specs.Pairs.{StackStandsFor}
use Rattle.history.specs.Stacks.{Stacks, FitsIn, HaveStoredIds, HasTakenBack, AreUnseen, noted, put_step, side}
use Rattle.history.specs.declared.planned.Direction.{Direction}
use Rattle.history.specs.declared.step.Step.{Step}
use Rattle.history.specs.declared.step.Step.TheVariants.{Done, Nothing}
use Rattle.undo_model.specs.Differing.{pending}
use Rattle.snapshot.specs.Touched.{AreUntouched}
use Rattle.replica.specs.declared.board.Board.{Board}
use Rattle.replica.specs.declared.planned.PlannedStep.{PlannedStep}
use Rattle.replica.specs.State.{State}

-- what is stored and shown, the snapshot and the stacks
pub record Told : Type 0 where
  pub stored : List ElementValue
  pub view : List ElementValue
  pub snapshot : List ElementValue
  pub stacks : Stacks

abbrev pub told : Board → Told
told board = record {
  stored = board.store.elements;
  view = board.view;
  snapshot = board.snapshot.elements;
  stacks = board.history.stacks;
}

-- A state is of the same elements, and the entries of members stand for those of whole elements.
pub record ToldStandsFor (t : Told) (s : State) : Type 0 where
  pub stored : t.stored ≡ s.stored
  pub snapshot : t.snapshot ≡ s.snapshot
  pub undo : StackStandsFor t.stacks.undo s.undo
  pub redo : StackStandsFor t.stacks.redo s.redo

-- Each id of these elements is one of those.
abbrev pub AreKnown : List ElementValue → List ElementValue → Type 0
AreKnown elements stored =
    (id : List ℕ) → IsSome (element_of elements id) → IsSome (element_of stored id)

-- What holds of every board: it shows what is stored; of stored elements and snapshot the ids rise,
-- and they are elements; the ids of the snapshot and of both stacks are stored.
pub record IsSound (t : Told) : Type 0 where
  pub view : t.view ≡ live_elements t.stored
  pub stored_rise : are_rising (ids_of t.stored) ≡ true
  pub snapshot_rise : are_rising (ids_of t.snapshot) ≡ true
  pub stored_elements : AreElements t.stored
  pub snapshot_elements : AreElements t.snapshot
  pub known : AreKnown t.snapshot t.stored
  pub undo_ids : HaveStoredIds t.stored t.stacks.undo
  pub redo_ids : HaveStoredIds t.stored t.stacks.redo

-- They are sound, and a state stands behind them.
abbrev pub IsTold : Told → Type 0
IsTold t = IsSound t × ((s : State) × ToldStandsFor t s)

-- Of each id that isn't touched the snapshot of a board has what is stored.
abbrev pub IsUntouched : Board → Type 0
IsUntouched board = AreUntouched board.touched board.snapshot.elements board.store.elements

abbrev pub IsBoard : Board → Type 0
IsBoard board = IsTold (told board) × IsUntouched board

-- How the stacks came, by what the step answers.
abbrev pub StacksComeBy : Direction → List ElementValue → Stamp → Step → Stacks → Stacks → Type 0
StacksComeBy direction stored stamp (Done given) old new =
    HasTakenBack direction stored stamp given old new
StacksComeBy direction stored stamp Nothing old new =
    AreUnseen stored (side direction old) × (new ≡ old)

-- A step is planned, from what is pending on: its plan for the stacks fits in them, and they come
-- by it.
pub record IsPlannedStep (stored snapshot : List ElementValue) (stacks : Stacks)
    (plan : PlannedStep) : Type 0 where
  pub entry : List Delta
  pub stands : EntryStandsFor entry (pending snapshot stored)
  pub fits : FitsIn plan.history stacks
  pub comes : StacksComeBy plan.direction stored plan.stamp plan.step (noted entry stacks)
      (put_step plan.history stacks)

-- The plan is one for this call of undo, or of redo.
pub record IsPlanOf (direction : Direction) (stamp : Stamp) (plan : PlannedStep) : Type 0 where
  pub of_direction : plan.direction ≡ direction
  pub of_stamp : plan.stamp ≡ stamp
