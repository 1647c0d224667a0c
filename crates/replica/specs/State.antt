-- What a replica is, and what each call makes of it, over whole elements. This project's own, after
-- Excalidraw's store and history.
use Rattle.std.specs.Prelude.{◌≡◌, ℕ, List, [], ◌∷◌, Option, Some, None, Result, Ok, Err}
use Rattle.elem.specs.ElementValue.{ElementValue}
use Rattle.elem_store.specs.Updates.{takings}
use Rattle.delta.specs.Pairs.{Pair}
use Rattle.reconcile.specs.Ids.{free_elements}
use Rattle.view.specs.Shown.{live_elements, shown}
use Rattle.effects.specs.Changed.{outcome}
use Rattle.board_commands.specs.declared.command.Capture.{Capture}
use Rattle.board_commands.specs.declared.command.Capture.TheVariants.{Now, Later, Never}
use Rattle.board_commands.specs.declared.command.Command.{Command}
use Rattle.effects.specs.declared.refusal.Refusal.{Refusal}
use Rattle.history.specs.Stacks.{chosen, other}
use Rattle.history.specs.declared.planned.Direction.{Direction}
use Rattle.history.specs.declared.planned.Direction.TheVariants.{Undo, Redo}
use Rattle.history.specs.declared.step.Step.{Step}
use Rattle.history.specs.declared.step.Step.TheVariants.{Done, Nothing}
use Rattle.undo_model.specs.Carrying.{taken_all, carried_all}
use Rattle.undo_model.specs.Differing.{pending}
use Rattle.undo_model.specs.Steps.{Turn, step}

-- The stored elements and those of the snapshot, in the order of their ids; the entries that can be
-- undone and redone, the next one first, each the elements before and after that it is of; and the
-- ids that are held.
pub record State : Type 0 where
  pub stored : List ElementValue
  pub snapshot : List ElementValue
  pub undo : List (List Pair)
  pub redo : List (List Pair)
  pub held : List (List ℕ)

-- with nothing
abbrev pub nothing : State
nothing = record { stored = []; snapshot = []; undo = []; redo = []; held = [] }

-- An entry that isn't empty is the next one to undo, and nothing can be redone; an empty one
-- changes nothing.
abbrev pub noted : List Pair → State → State
noted [] s = s
noted (pair ∷ pairs) s = record s { undo = (pair ∷ pairs) ∷ s.undo; redo = [] }

-- what is pending is captured: it is noted, and the snapshot is what is stored
abbrev pub captured : State → State
captured s = record (noted (pending s.snapshot s.stored) s) { snapshot = s.stored }

-- after updates were taken; those that become stored are carried into the snapshot, or not
abbrev pub stored_with : List ElementValue → State → State
stored_with list s = record s { stored = taken_all list s.stored }

abbrev pub carried_with : List ElementValue → State → State
carried_with list s =
    record (stored_with list s) { snapshot = carried_all (takings s.stored list) s.snapshot }

-- ---- a change
-- the changed elements of a command, or its refusal
abbrev pub outcome_on : Command → ℕ → ℕ → State → Result (List ElementValue) Refusal
outcome_on command time nonce s =
    outcome s.stored (shown (live_elements s.stored)) command time nonce

-- after these were changed: now captured with what was pending, or later, or carried into the
-- snapshot
abbrev pub after_given : Capture → List ElementValue → State → State
after_given Now given s = captured (stored_with given s)
after_given Later given s = stored_with given s
after_given Never given s = carried_with given s

abbrev pub after_outcome : Capture → Result (List ElementValue) Refusal → State → State
after_outcome capture (Ok given) s = after_given capture given s
after_outcome capture (Err refusal) s = s

abbrev pub after_change : Command → Capture → ℕ → ℕ → State → State
after_change command capture time nonce s =
    after_outcome capture (outcome_on command time nonce s) s

-- These are the changed elements of some command.
pub record IsOutcome (stored given : List ElementValue) : Type 0 where
  pub command : Command
  pub time : ℕ
  pub nonce : ℕ
  pub is : outcome stored (shown (live_elements stored)) command time nonce ≡ Ok given

-- ---- a delivery
-- after a list was delivered: the elements whose ids aren't held are taken
abbrev pub after_delivery : List ElementValue → State → State
after_delivery list s = carried_with (free_elements s.held list) s

-- ---- undo and redo
-- the entries that can be undone, or redone
abbrev pub entries : Direction → State → List (List Pair)
entries direction s = chosen direction s.undo s.redo

-- What is pending is captured, and then one step is made; nothing comes where no entry is seen, and
-- the capture stands.
abbrev pub turn_on : Direction → ℕ → ℕ → State → Option (Result Turn (List ℕ))
turn_on direction time nonce s =
    step s.stored time nonce (entries direction (captured s))
    (entries (other direction) (captured s))

abbrev pub undo_on : ℕ → ℕ → State → Option (Result Turn (List ℕ))
undo_on time nonce s = turn_on Undo time nonce s

abbrev pub redo_on : ℕ → ℕ → State → Option (Result Turn (List ℕ))
redo_on time nonce s = turn_on Redo time nonce s

-- after a step: its elements are taken, and the snapshot is what is stored then
abbrev pub turned : Direction → Turn → State → State
turned direction turn s = record s {
  stored = taken_all turn.given s.stored;
  snapshot = taken_all turn.given s.stored;
  undo = chosen direction turn.from turn.to;
  redo = chosen direction turn.to turn.from;
}

-- after undo, or redo, by what it came to; where an element is full nothing is changed
abbrev pub after_turn_of : Direction → Option (Result Turn (List ℕ)) → State → State
after_turn_of direction None s = captured s
after_turn_of direction (Some (Err id)) s = s
after_turn_of direction (Some (Ok turn)) s = turned direction turn s

abbrev pub after_turn : Direction → ℕ → ℕ → State → State
after_turn direction time nonce s = after_turn_of direction (turn_on direction time nonce s) s

abbrev pub after_undo : ℕ → ℕ → State → State
after_undo time nonce s = after_turn Undo time nonce s

abbrev pub after_redo : ℕ → ℕ → State → State
after_redo time nonce s = after_turn Redo time nonce s

-- what a step answers: it gives the elements, or nothing comes
abbrev pub IsStepAnswer : Step → Option (Result Turn (List ℕ)) → Type 0
IsStepAnswer (Done given) found = (turn : Turn) × (found ≡ Some (Ok turn)) × (given ≡ turn.given)
IsStepAnswer Nothing found = found ≡ None
