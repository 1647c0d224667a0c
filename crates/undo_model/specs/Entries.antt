-- Entries as pairs of elements in full, and what a step gives of them. This project's own, after
-- Excalidraw's history.
use Rattle.std.specs.Prelude.{◌≡◌, ℕ, List, true, Some, IfSome, All, Contains, map}
use Rattle.frac_keys.specs.Rising.{are_rising}
use Rattle.elem.specs.ElementValue.{ElementValue}
use Rattle.elem.specs.Facts.{IsElement, greatest_whole}
use Rattle.elem.specs.Said.{HasValidTexts, AreElements}
use Rattle.elem.specs.Stamp.{stamped}
use Rattle.elem_store.specs.Updates.{Taking, element_of, ids_of}
use Rattle.delta.specs.Pairs.{Pair, IsChanged}
use Rattle.undo_model.specs.Differing.{differ}
use Rattle.undo_model.specs.Steps.{Turn}
use Rattle.undo_model.specs.Undoing.{undone}

-- Both of a pair are elements, as their types keep them.
abbrev pub IsOfElements : Pair → Type 0
IsOfElements pair = (IsElement pair.before × HasValidTexts pair.before)
    × (IsElement pair.after × HasValidTexts pair.after)

-- So are an update that becomes stored and what was stored before it.
abbrev pub IsTakingOfElements : Taking → Type 0
IsTakingOfElements taking = IfSome taking.before (λ e. IsElement e × HasValidTexts e)
    × (IsElement taking.taken × HasValidTexts taking.taken)

-- the ids of pairs
abbrev pub pair_ids : List Pair → List (List ℕ)
pair_ids pairs = map (λ (pair : Pair). pair.after.id) pairs

-- The pairs of an entry are of elements and changed, in the order of their ids; so are those of
-- each entry of a stack.
pub record IsEntry (pairs : List Pair) : Type 0 where
  pub each : (pair : Pair) → Contains pairs pair → IsOfElements pair × IsChanged pair
  pub ordered : are_rising (pair_ids pairs) ≡ true

abbrev pub AreEntries : List (List Pair) → Type 0
AreEntries stack = All IsEntry stack

-- The element is that which undoing a pair of the entry makes of the stored one, stamped, and the
-- two differ.
pub record IsGiven (stored : List ElementValue) (time nonce : ℕ) (pairs : List Pair)
    (e : ElementValue) : Type 0 where
  pub pair : Pair
  pub now : ElementValue
  pub among : Contains pairs pair
  pub found : element_of stored pair.after.id ≡ Some now
  pub differs : differ now (undone pair now) ≡ true
  pub is : e ≡ stamped time nonce (undone pair now)

-- Undoing a pair of the entry would change the stored element of this id, which stands at the
-- greatest version.
pub record IsFullId (stored : List ElementValue) (pairs : List Pair) (full : List ℕ) : Type 0 where
  pub pair : Pair
  pub now : ElementValue
  pub among : Contains pairs pair
  pub id : pair.after.id ≡ full
  pub found : element_of stored pair.after.id ≡ Some now
  pub differs : differ now (undone pair now) ≡ true
  pub version : now.version ≡ greatest_whole

-- A step gives elements in the order of their ids, and leaves stacks of entries.
pub record IsSoundTurn (turn : Turn) : Type 0 where
  pub elements : AreElements turn.given
  pub ordered : are_rising (ids_of turn.given) ≡ true
  pub from : AreEntries turn.from
  pub to : AreEntries turn.to
