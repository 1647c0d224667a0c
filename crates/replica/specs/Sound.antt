-- What holds of every state that a replica comes to. This project's own.
use Rattle.std.specs.Prelude.{◌≡◌, ℕ, List, true, Some, Contains, IsSome}
use Rattle.frac_keys.specs.Rising.{are_rising}
use Rattle.elem.specs.ElementValue.{ElementValue}
use Rattle.elem.specs.Said.{AreElements}
use Rattle.elem_store.specs.Updates.{element_of, ids_of}
use Rattle.delta.specs.Pairs.{Pair}
use Rattle.replica.specs.State.{State}

-- Each element of a snapshot is stored, and of the same kind.
abbrev pub AreStoredAlike : List ElementValue → List ElementValue → Type 0
AreStoredAlike snapshot stored =
    (id : List ℕ) (e : ElementValue) → element_of snapshot id ≡ Some e
    → (other : ElementValue) × (element_of stored id ≡ Some other) × (other.kind ≡ e.kind)

-- Each element of the entries of a stack is stored.
abbrev pub AreStoredIds : List (List Pair) → List ElementValue → Type 0
AreStoredIds stack stored =
    (entry : List Pair) (pair : Pair) → Contains stack entry → Contains entry pair
    → IsSome (element_of stored pair.after.id)

-- What holds of every state that a replica stands for: of stored elements and snapshot the ids
-- rise; they are elements; the snapshot's are stored, with the stored kind; and so are the ids of
-- both stacks.
pub record IsSoundState (s : State) : Type 0 where
  pub stored_rise : are_rising (ids_of s.stored) ≡ true
  pub snapshot_rise : are_rising (ids_of s.snapshot) ≡ true
  pub stored_elements : AreElements s.stored
  pub snapshot_elements : AreElements s.snapshot
  pub alike : AreStoredAlike s.snapshot s.stored
  pub undo_ids : AreStoredIds s.undo s.stored
  pub redo_ids : AreStoredIds s.redo s.stored
