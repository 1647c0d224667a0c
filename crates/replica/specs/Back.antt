-- Successive changes, the undo and redo of them, and what is then as it was. This project's own.
use Rattle.std.specs.Prelude.{◌≡◌, ◌≢◌, ◌≤◌, ℕ, List, [], ◌∷◌, true, false, Option, Some, None, Result, Ok, Err, Contains, map}
use Rattle.frac_keys.specs.Rising.{are_rising}
use Rattle.elem.specs.ElementValue.{ElementValue}
use Rattle.elem.specs.Facts.{greatest_whole}
use Rattle.elem.specs.Order.{unstamped}
use Rattle.elem.specs.Said.{AreElements}
use Rattle.elem_store.specs.Updates.{element_of, ids_of, is_taken}
use Rattle.view.specs.Shown.{live_elements, shown}
use Rattle.history.specs.declared.planned.Direction.{Direction}
use Rattle.history.specs.declared.planned.Direction.TheVariants.{Undo, Redo}
use Rattle.undo_model.specs.Differing.{pending}
use Rattle.undo_model.specs.Steps.{Turn}
use Rattle.replica.specs.State.{State, captured, stored_with, turn_on, after_turn}

-- Each old element is stored now the same but for the stamp, and every other element that is stored
-- now is deleted.
pub record AgreesWith (old now : List ElementValue) : Type 0 where
  pub each : (id : List ℕ) (e : ElementValue) → element_of old id ≡ Some e
      → (other : ElementValue) × (element_of now id ≡ Some other) × (unstamped other ≡ unstamped e)
  pub others : (id : List ℕ) (e : ElementValue) → element_of old id ≡ None
      → element_of now id ≡ Some e → e.deleted ≡ true

-- A state is as another one was: what is stored agrees, and what is shown is the same but for the
-- stamps.
pub record IsAs (was now : State) : Type 0 where
  pub agrees : AgreesWith was.stored now.stored
  pub looks : map unstamped (shown (live_elements now.stored)) ≡ map unstamped
      (shown (live_elements was.stored))

-- Nothing is pending: no stored element differs from that of the snapshot. One that the snapshot
-- lacks counts as deleted before.
abbrev pub HasNothingPending : State → Type 0
HasNothingPending s = pending s.snapshot s.stored ≡ []

-- All is captured, which says more: the snapshot is what is stored but for the stamps.
abbrev pub IsCaptured : State → Type 0
IsCaptured s = map unstamped s.snapshot ≡ map unstamped s.stored

-- ---- changes
-- An element alters what is stored of its id: it is new and live, or what is stored is live, of its
-- kind, and differs from it outside the stamp.
abbrev pub Alters : Option ElementValue → ElementValue → Type 0
Alters None e = e.deleted ≡ false
Alters (Some old) e = (old.deleted ≡ false) × (old.kind ≡ e.kind) × (unstamped old ≢ unstamped e)

-- A change of stored elements gives some elements in the order of their ids, which are taken and
-- alter what is stored.
pub record IsStoredChange (stored given : List ElementValue) : Type 0 where
  pub some : given ≢ []
  pub ordered : are_rising (ids_of given) ≡ true
  pub elements : AreElements given
  pub taken : (e : ElementValue) → Contains given e → is_taken stored e ≡ true
  pub alters : (e : ElementValue) → Contains given e → Alters (element_of stored e.id) e

-- after a change that is captured at once, and after successive ones
abbrev pub changed : List ElementValue → State → State
changed given s = captured (stored_with given s)

abbrev pub changed_all : List (List ElementValue) → State → State
changed_all [] s = s
changed_all (given ∷ more) s = changed_all more (changed given s)

-- Each is a change of what is stored then.
abbrev pub AreChanges : List (List ElementValue) → State → Type 0
AreChanges [] s = Unit {0}
AreChanges (given ∷ more) s = IsStoredChange s.stored given × AreChanges more (changed given s)

-- ---- undo and redo
-- a call of undo or redo: its time and its nonce
pub record Call : Type 0 where
  pub time : ℕ
  pub nonce : ℕ

-- A call is done: its numbers are within their limit, and a step was found and not refused.
pub record IsDone (call : Call) (found : Option (Result Turn (List ℕ))) : Type 0 where
  pub time : call.time ≤ greatest_whole
  pub nonce : call.nonce ≤ greatest_whole
  pub turn : Turn
  pub is : found ≡ Some (Ok turn)

-- A step is found: it is made, or refused for a full version alone: the stored element of the id
-- stands at the greatest one.
abbrev pub IsFound : List ElementValue → Option (Result Turn (List ℕ)) → Type 0
IsFound stored None = ⊥
IsFound stored (Some (Ok turn)) = Unit {0}
IsFound stored (Some (Err id)) =
    (e : ElementValue) × (element_of stored id ≡ Some e) × (e.version ≡ greatest_whole)

-- after successive turns
abbrev pub turned_all : Direction → List Call → State → State
turned_all direction [] s = s
turned_all direction (call ∷ more) s =
    turned_all direction more (after_turn direction call.time call.nonce s)

abbrev pub undone_all : List Call → State → State
undone_all calls s = turned_all Undo calls s

abbrev pub redone_all : List Call → State → State
redone_all calls s = turned_all Redo calls s

-- Each of them is done.
abbrev pub AreTurns : Direction → List Call → State → Type 0
AreTurns direction [] s = Unit {0}
AreTurns direction (call ∷ more) s =
    IsDone call (turn_on direction call.time call.nonce s)
    × AreTurns direction more (after_turn direction call.time call.nonce s)

abbrev pub AreUndos : List Call → State → Type 0
AreUndos calls s = AreTurns Undo calls s

abbrev pub AreRedos : List Call → State → Type 0
AreRedos calls s = AreTurns Redo calls s
