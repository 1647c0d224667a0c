-- What lines do to a replica: changes, undos and redos that are done, and lines that are no event. This
-- project's own.
use Rattle.std.specs.Prelude.{◌≡◌, ◌≢◌, ◌⊎◌, ℕ, zero, suc, List, [], ◌∷◌, Some, Result, Ok}
use Rattle.board_commands.specs.declared.command.Capture.TheVariants.{Now}
use Rattle.board_commands.specs.declared.command.Command.{Command}
use Rattle.history.specs.declared.planned.Direction.{Direction}
use Rattle.history.specs.declared.planned.Direction.TheVariants as directions
use Rattle.undo_model.specs.Steps.{Turn}
use Rattle.replica.specs.State.{turn_on}
use Rattle.session_text.specs.Lines.{LineText}
use Rattle.session_text.specs.declared.fault.TextFault.{TextFault}
use Rattle.session_text.specs.declared.lines.Line.{Line}
use Rattle.session_text.specs.declared.lines.Line.TheVariants as lines
use Rattle.session.specs.Worlds.{change_on, given_of}
use Rattle.line_replica.specs.Living.{Living, nonce_of, of_change, of_turn}
use Rattle.line_replica.specs.Sessions.{AreReadEvents}
use Rattle.line_replica.specs.Talks.{LineReads}

-- The line is a change that is captured at once and gives at least one element, and leads there.
pub record IsChangeLine (l : Living) (bytes : List ℕ) (next : Living) : Type 0 where
  pub time : ℕ
  pub command : Command
  pub reads : LineReads LineText bytes (Ok (lines.Change time Now command))
  pub gives : given_of (change_on command Now time (nonce_of l) l.seat.state).outcome ≢ []
  pub after : next ≡ (of_change command Now time l).after

-- The line is an undo, or a redo, that finds an entry and isn't refused, and leads there.
abbrev pub turn_line : Direction → ℕ → Line
turn_line directions.Undo time = lines.Undo time
turn_line directions.Redo time = lines.Redo time

pub record IsTurnLine (direction : Direction) (l : Living) (bytes : List ℕ) (next : Living) :
    Type 0 where
  pub time : ℕ
  pub reads : LineReads LineText bytes (Ok (turn_line direction time))
  pub turn : Turn
  pub found : turn_on direction time (nonce_of l) l.seat.state ≡ Some (Ok turn)
  pub after : next ≡ (of_turn direction time l).after

abbrev pub IsUndoLine : Living → List ℕ → Living → Type 0
IsUndoLine = IsTurnLine directions.Undo

abbrev pub IsRedoLine : Living → List ℕ → Living → Type 0
IsRedoLine = IsTurnLine directions.Redo

-- The line is no event: it asks for something, or has a fault.
pub record IsNoEvent (bytes : List ℕ) : Type 0 where
  pub read : Result Line TextFault
  pub reads : LineReads LineText bytes read
  pub none : (number made : ℕ) → AreReadEvents number made read []

-- So many of the lines are such, each where the lines before it lead, all others are no event, and
-- they lead there.
abbrev pub AreLinesOf : (Living → List ℕ → Living → Type 0) → Living → List (List ℕ) → ℕ → Living
    → Type 0
AreLinesOf Is l [] zero last = last ≡ l
AreLinesOf Is l [] (suc n) last = ⊥
AreLinesOf Is l (bytes ∷ lines) zero last = IsNoEvent bytes × AreLinesOf Is l lines zero last
AreLinesOf Is l (bytes ∷ lines) (suc n) last =
    ((next : Living) × Is l bytes next × AreLinesOf Is next lines n last)
    ⊎ (IsNoEvent bytes × AreLinesOf Is l lines (suc n) last)
