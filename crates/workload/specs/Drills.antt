-- The session that a drill is. This project's own.
use Rattle.std.specs.Prelude.{ℕ, List, [], ◌∷◌, ◌++◌, None, map, codes, decimal}
use Rattle.json_text.specs.FirstOccurrences.{first_texts}
use Rattle.board_commands.specs.declared.command.Command.{Command}
use Rattle.board_commands.specs.declared.command.Command.TheVariants as commands
use Rattle.board_commands.specs.declared.command.Spot.TheVariants as spots
use Rattle.session_text.specs.declared.event.Event.{Event}
use Rattle.session_text.specs.declared.event.Event.TheVariants as events
use Rattle.session_text.specs.declared.event.Pick.TheVariants.{All}
use Rattle.session_text.specs.declared.session.Session.{Session}
use Rattle.workload.specs.Deeds.{course}
use Rattle.workload.specs.Elements.{numbered_element}
use Rattle.workload.specs.Texts.{numbered_id, rising, falling}
use Rattle.workload.specs.declared.deed.Deed.{Deed}
use Rattle.workload.specs.declared.deed.Deed.TheVariants.{Change, Undo, Redo, Deliver}
use Rattle.workload.specs.declared.deed.Order.{Order}
use Rattle.workload.specs.declared.deed.Order.TheVariants.{Create, SetX, SetY, Place, Bind, Label, Frame, Group, Delete}

-- ---- commands and events
abbrev pub command_of : Order → Command
command_of (Create element) = commands.Create (numbered_element element) spots.Top
command_of (SetX element value) = commands.Set (numbered_id element) (codes "x") (decimal value)
command_of (SetY element value) = commands.Set (numbered_id element) (codes "y") (decimal value)
command_of (Place element other) =
    commands.Place (numbered_id element) (spots.After (numbered_id other))
command_of (Bind side element other) =
    commands.Bind (numbered_id element) side (numbered_id other) []
command_of (Label element other) = commands.Label (numbered_id element) (numbered_id other)
command_of (Frame element other) = commands.Frame (numbered_id element ∷ []) (numbered_id other)
command_of (Group element other) =
    commands.Group (first_texts (numbered_id element ∷ numbered_id other ∷ [])) (codes "g")
command_of (Delete element) = commands.Delete (numbered_id element ∷ [])

-- whole messages are delivered
abbrev pub delivery : ℕ → List ℕ → Event
delivery to messages = events.Deliver to (map All messages)

abbrev pub event_of : Deed → Event
event_of (Change at time capture order) = events.Change at time capture (command_of order)
event_of (Undo at time) = events.Undo at time
event_of (Redo at time) = events.Redo at time
event_of (Deliver to first last) = delivery to (first ∷ last ∷ [])

-- ---- the drill
-- the events that are drawn, and the last four
abbrev pub drawn_events : ℕ → ℕ → List Event
drawn_events seed events = map event_of (course seed events).deeds

abbrev pub last_events : ℕ → List Event
last_events made =
    delivery 0 (rising made) ∷ delivery 1 (falling made) ∷ delivery 2 (rising made) ∷ delivery 3
    (falling made) ∷ []

unfoldable pub drill_session : ℕ → ℕ → Session
drill_session seed events = record {
  replicas = 4;
  seed = seed;
  scene = None;
  events = drawn_events seed events ++ last_events (course seed events).made;
}
