-- One step of undo or redo over whole elements, as a function. This project's own, after
-- Excalidraw's history.
use Rattle.std.specs.Prelude.{ℕ, ◌==◌, List, [], ◌∷◌, Bool, false, not, ◌&&◌, ◌||◌, Option, Some, None, Result, Ok, Err, find, map, filter_map, if◌then◌else◌}
use Rattle.std.specs.List.{list_any}
use Rattle.std.specs.Option.{option_map, option_map_or, option_and_then}
use Rattle.elem.specs.ElementValue.{ElementValue}
use Rattle.elem.specs.Facts.{greatest_whole}
use Rattle.elem.specs.Stamp.{stamped}
use Rattle.elem_store.specs.Updates.{element_of}
use Rattle.delta.specs.Pairs.{Pair, pairs_from, exchanged}
use Rattle.undo_model.specs.Differing.{differ}
use Rattle.undo_model.specs.Undoing.{undone}

-- a stored element, and what undoing a change makes of it
pub record Reverted : Type 0 where
  pub now : ElementValue
  pub undone : ElementValue

abbrev pub reverted : List ElementValue → Pair → Option Reverted
reverted stored pair = option_map (λ now. record { now = now; undone = undone pair now })
    (element_of stored pair.after.id)

-- whether it changes outside the stamp; whether anybody sees that: it is live before or after; and
-- whether it can't, since it stands at the greatest version
abbrev pub changes : Reverted → Bool
changes r = differ r.now r.undone

abbrev pub is_visible : Reverted → Bool
is_visible r = changes r && (not r.now.deleted || not r.undone.deleted)

abbrev pub is_full : Reverted → Bool
is_full r = changes r && r.now.version == greatest_whole

-- An entry of pairs is seen on a board: undoing it changes, outside the stamp, an element that is
-- live before or after.
abbrev pub is_seen : List ElementValue → List Pair → Bool
is_seen stored pairs =
    list_any (λ pair. option_map_or is_visible (reverted stored pair) false) pairs

-- what undoing a change gives: the element, stamped, if that changes
abbrev pub given_of : List ElementValue → ℕ → ℕ → Pair → Option ElementValue
given_of stored time nonce pair =
    option_and_then (λ r. if changes r then Some (stamped time nonce r.undone) else None)
    (reverted stored pair)

-- the elements that undoing an entry changes, stamped
abbrev pub given : List ElementValue → ℕ → ℕ → List Pair → List ElementValue
given stored time nonce pairs = filter_map (given_of stored time nonce) pairs

-- the first id whose element would change and stands at the greatest version
abbrev pub full_id : List ElementValue → List Pair → Option (List ℕ)
full_id stored pairs =
    option_map (λ (pair : Pair). pair.after.id)
    (find (λ pair. option_map_or is_full (reverted stored pair) false) pairs)

-- the topmost entry of a stack that is seen, what is below it, and the other stack once the entries
-- above it went there, one after another, with before and after exchanged
pub record Sought : Type 0 where
  pub entry : List Pair
  pub below : List (List Pair)
  pub to : List (List Pair)

abbrev pub sought : List ElementValue → List (List Pair) → List (List Pair) → Option Sought
sought stored [] to = None
sought stored (entry ∷ below) to =
    if is_seen stored entry then Some (record { entry = entry; below = below; to = to })
    else sought stored below (map exchanged entry ∷ to)

-- what a step gives, and the two stacks after it, the topmost entry first
pub record Turn : Type 0 where
  pub given : List ElementValue
  pub from : List (List Pair)
  pub to : List (List Pair)

-- the changes that a step made, which take it back
abbrev pub made : List ElementValue → List ElementValue → List Pair
made stored given = pairs_from (element_of stored) given

abbrev pub turn_of : List ElementValue → ℕ → ℕ → Sought → Turn
turn_of stored time nonce s = record {
  given = given stored time nonce s.entry;
  from = s.below;
  to = made stored (given stored time nonce s.entry) ∷ s.to;
}

abbrev pub turn_unless : Option (List ℕ) → Turn → Result Turn (List ℕ)
turn_unless (Some id) turn = Err id
turn_unless None turn = Ok turn

-- One step: nothing where no entry is seen; else the least id whose element can't change, or the
-- step.
abbrev pub step : List ElementValue → ℕ → ℕ → List (List Pair) → List (List Pair)
    → Option (Result Turn (List ℕ))
step stored time nonce from to =
    option_map (λ s. turn_unless (full_id stored s.entry) (turn_of stored time nonce s))
    (sought stored from to)
