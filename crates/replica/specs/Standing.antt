-- A replica as contracts see it, and which state over whole elements it stands for. This project's
-- own.
use Rattle.std.specs.Prelude.{◌≡◌, ℕ, List}
use Rattle.elem.specs.ElementValue.{ElementValue}
use Rattle.history.specs.Pairs.{StackStandsFor}
use Rattle.history.specs.Stacks.{Stacks}
use Rattle.replica.specs.State.{State}

-- The stored elements and those of the snapshot, in the order of their ids; the stacks of entries
-- of changed members; and the ids that are held.
pub record Kept : Type 0 where
  pub stored : List ElementValue
  pub snapshot : List ElementValue
  pub stacks : Stacks
  pub held : List (List ℕ)

-- The state is of the same elements and ids, and the entries of members stand for those of whole
-- elements.
pub record ReplicaStandsFor (replica : Kept) (s : State) : Type 0 where
  pub stored : replica.stored ≡ s.stored
  pub snapshot : replica.snapshot ≡ s.snapshot
  pub undo : StackStandsFor replica.stacks.undo s.undo
  pub redo : StackStandsFor replica.stacks.redo s.redo
  pub held : replica.held ≡ s.held
