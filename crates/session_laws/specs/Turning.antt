-- What events of a session do to one replica: changes, undos and redos that are done there, and
-- events that keep away from it. This project's own.
use Rattle.std.specs.Prelude.{◌≡◌, ◌≢◌, ◌⊎◌, ℕ, zero, suc, List, [], ◌∷◌, Some, Ok}
use Rattle.elem_store.specs.Updates.{takings}
use Rattle.reconcile.specs.Ids.{free_elements}
use Rattle.board_commands.specs.declared.command.Capture.TheVariants.{Now, Later}
use Rattle.board_commands.specs.declared.command.Command.{Command}
use Rattle.history.specs.Stacks.{chosen}
use Rattle.history.specs.declared.planned.Direction.{Direction}
use Rattle.history.specs.declared.planned.Direction.TheVariants as directions
use Rattle.undo_model.specs.Steps.{Turn}
use Rattle.replica.specs.State.{turn_on}
use Rattle.session_text.specs.declared.event.Event.{Event}
use Rattle.session_text.specs.declared.event.Event.TheVariants.{Change, Update, Deliver, Hold, Release, Undo, Redo}
use Rattle.session.specs.Worlds.{World, change_on, given_of, state_at, nonce_at, all_picked, after_event}

-- An event keeps away from a replica: it is at another one, it makes a message from elsewhere, it
-- is of held ids alone, or it is a delivery of which nothing becomes stored there.
abbrev pub KeepsAway : ℕ → Event → World → Type 0
KeepsAway at (Change other time capture command) w = other ≢ at
KeepsAway at (Update elements) w = Unit {0}
KeepsAway at (Deliver to picks) w =
    to ≡ at
    → takings (state_at w at).stored
    (free_elements (state_at w at).held (all_picked w.messages picks)) ≡ []
KeepsAway at (Hold other id) w = Unit {0}
KeepsAway at (Release other id) w = Unit {0}
KeepsAway at (Undo other time) w = other ≢ at
KeepsAway at (Redo other time) w = other ≢ at

-- A change at the replica that is captured at once and gives at least one element.
pub record IsChangeAt (at : ℕ) (event : Event) (w : World) : Type 0 where
  pub time : ℕ
  pub command : Command
  pub is : event ≡ Change at time Now command
  pub gives : given_of (change_on command Now time (nonce_at w at) (state_at w at)).outcome ≢ []

-- A change at the replica that is captured later.
abbrev pub IsLaterAt : ℕ → Event → Type 0
IsLaterAt at event = (time : ℕ) × (command : Command) × (event ≡ Change at time Later command)

-- An undo, or a redo, at the replica that finds an entry and isn't refused.
pub record IsTurnAt (direction : Direction) (at : ℕ) (event : Event) (w : World) : Type 0 where
  pub time : ℕ
  pub is : event ≡ chosen direction (Undo at time) (Redo at time)
  pub turn : Turn
  pub found : turn_on direction time (nonce_at w at) (state_at w at) ≡ Some (Ok turn)

-- So many of the events are such at the replica, each in the world that the events before it come
-- to, and all others keep away from it.
abbrev pub AreAmong : (ℕ → Event → World → Type 0) → ℕ → List Event → World → ℕ → Type 0
AreAmong Is at [] w zero = Unit {0}
AreAmong Is at [] w (suc n) = ⊥
AreAmong Is at (event ∷ events) w zero =
    KeepsAway at event w × AreAmong Is at events (after_event event w) zero
AreAmong Is at (event ∷ events) w (suc n) =
    (Is at event w × AreAmong Is at events (after_event event w) n)
    ⊎ (KeepsAway at event w × AreAmong Is at events (after_event event w) (suc n))

abbrev pub AreChangesAt : ℕ → List Event → World → ℕ → Type 0
AreChangesAt at events w n = AreAmong IsChangeAt at events w n

abbrev pub AreUndosAt : ℕ → List Event → World → ℕ → Type 0
AreUndosAt at events w n = AreAmong (IsTurnAt directions.Undo) at events w n

abbrev pub AreRedosAt : ℕ → List Event → World → ℕ → Type 0
AreRedosAt at events w n = AreAmong (IsTurnAt directions.Redo) at events w n
