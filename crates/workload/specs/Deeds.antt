-- What happens in a drill, one event after the other. This project's own.
use Rattle.std.specs.Prelude.{ℕ, zero, suc, ◌+◌, ◌*◌, ◌-◌, ◌%◌, List, [], ◌∷◌, ◌++◌, ◌==◌, nat_le, if◌then◌else◌}
use Rattle.rand_pcg.specs.Lcg.{Lcg}
use Rattle.board_commands.specs.declared.command.Capture.{Capture}
use Rattle.board_commands.specs.declared.command.Capture.TheVariants as captures
use Rattle.board_commands.specs.declared.command.Side.TheVariants as sides
use Rattle.session_random.specs.Words.{generator_of}
use Rattle.workload.specs.Draws.{drawn, after_draws}
use Rattle.workload.specs.declared.deed.Deed.{Deed}
use Rattle.workload.specs.declared.deed.Deed.TheVariants.{Change, Undo, Redo, Deliver}
use Rattle.workload.specs.declared.deed.Order.{Order}
use Rattle.workload.specs.declared.deed.Order.TheVariants.{Create, SetX, SetY, Place, Bind, Label, Frame, Group, Delete}
use Rattle.workload.specs.declared.draws.Draws.{Draws}

-- the greatest number of events before the last four
abbrev pub most_drilled : ℕ
most_drilled = 200000

-- The row of the table below: the first event is of row 0, whatever was drawn.
abbrev pub row_of : ℕ → Draws → ℕ
row_of number draws = if number == 0 then 0 else draws.row

-- the commands of the rows 0 to 13
abbrev pub order_of : ℕ → ℕ → ℕ → Order
order_of row element other =
    if nat_le row 2 then Create element
    else (if nat_le row 5 then SetX element other
    else (if row == 6 then SetY element other
    else (if row == 7 then Place element other
    else (if row == 8 then Bind sides.Start element other
    else (if row == 9 then Bind sides.End element other
    else (if row == 10 then Label element other
    else (if row == 11 then Frame element other
    else (if row == 12 then Group element other
    else Delete element))))))))

-- how a change is captured: later and never in one case of eight each, else now
abbrev pub capture_of : ℕ → Capture
capture_of number =
    if number == 0 then captures.Later else (if number == 1 then captures.Never else captures.Now)

-- The event of this number, where so many messages were made before it: a command in the rows 0 to
-- 13, undo in 14, redo in 15, and in the others two messages are delivered, the latest among them.
-- Its time is its number and one.
unfoldable pub deed_of : ℕ → ℕ → Draws → Deed
deed_of number made draws =
    if nat_le (row_of number draws) 13 then Change draws.at (number + 1) (capture_of draws.capture)
    (order_of (row_of number draws) draws.element draws.other)
    else (if row_of number draws == 14 then Undo draws.at (number + 1)
    else (if row_of number draws == 15 then Redo draws.at (number + 1)
    else Deliver draws.at ((200 * draws.element + draws.other) % made) (made - 1)))

-- how many messages an event makes
abbrev pub messages_of : Deed → ℕ
messages_of (Change at time capture order) = 1
messages_of (Undo at time) = 1
messages_of (Redo at time) = 1
messages_of (Deliver to first last) = 0

-- A drill after some events: these, how many messages they made, and the generator.
pub record Course : Type 0 where
  pub deeds : List Deed
  pub made : ℕ
  pub generator : Lcg

abbrev pub with_deed : Deed → Course → Course
with_deed deed c = record {
  deeds = c.deeds ++ deed ∷ [];
  made = c.made + messages_of deed;
  generator = after_draws c.generator;
}

-- the drill of a seed after so many events
unfoldable pub course : ℕ → ℕ → Course
course seed zero = record { deeds = []; made = 0; generator = generator_of seed }
course seed (suc number) =
    with_deed (deed_of number (course seed number).made (drawn (course seed number).generator))
    (course seed number)
