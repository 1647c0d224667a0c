-- What holds of every session. This project's own.
use Rattle.std.specs.Prelude.{ℕ, ◌+◌, ◌<◌, ◌≤◌, List, [], ◌∷◌, IfSome, length}
use Rattle.std.specs.List.{AllByRecursion}
use Rattle.elem.specs.Facts.{greatest_whole}
use Rattle.elem.specs.Said.{AreElements}
use Rattle.board_commands.specs.Limits.{IsWithinLimits}
use Rattle.board_commands.specs.Written.{IsWrittenCommand}
use Rattle.scene_file.specs.Whole.{HaveKeys}
use Rattle.scene_file.specs.declared.scene.Scene.{Scene}
use Rattle.session_text.specs.Sessions.{most_events, messages_of}
use Rattle.session_text.specs.declared.event.Event.{Event}
use Rattle.session_text.specs.declared.event.Event.TheVariants.{Change, Update, Deliver, Hold, Release, Undo, Redo}
use Rattle.session_text.specs.declared.event.Pick.{Pick}
use Rattle.session_text.specs.declared.event.Pick.TheVariants.{All, One}
use Rattle.session_text.specs.declared.session.Session.{Session}

-- The event is at a replica of so many.
abbrev pub IsAmong : ℕ → Event → Type 0
IsAmong replicas (Change at time capture command) = at < replicas
IsAmong replicas (Update elements) = Unit {0}
IsAmong replicas (Deliver to picks) = to < replicas
IsAmong replicas (Hold at id) = at < replicas
IsAmong replicas (Release at id) = at < replicas
IsAmong replicas (Undo at time) = at < replicas
IsAmong replicas (Redo at time) = at < replicas

-- Its time is within the limit of times, and its command within those of commands.
abbrev pub IsEventWithinLimits : Event → Type 0
IsEventWithinLimits (Change at time capture command) =
    (time ≤ greatest_whole) × IsWithinLimits command
IsEventWithinLimits (Update elements) = Unit {0}
IsEventWithinLimits (Deliver to picks) = Unit {0}
IsEventWithinLimits (Hold at id) = Unit {0}
IsEventWithinLimits (Release at id) = Unit {0}
IsEventWithinLimits (Undo at time) = time ≤ greatest_whole
IsEventWithinLimits (Redo at time) = time ≤ greatest_whole

-- What it brings is of elements: those of an update are, and what a command creates; and the texts
-- that this writes are UTF-8.
abbrev pub BringsElements : Event → Type 0
BringsElements (Change at time capture command) = IsWrittenCommand command
BringsElements (Update elements) = AreElements elements
BringsElements (Deliver to picks) = Unit {0}
BringsElements (Hold at id) = Unit {0}
BringsElements (Release at id) = Unit {0}
BringsElements (Undo at time) = Unit {0}
BringsElements (Redo at time) = Unit {0}

-- The pick is of a message that is made.
abbrev pub IsOfMade : ℕ → Pick → Type 0
IsOfMade made (All message) = message < made
IsOfMade made (One message element) = message < made

-- What is delivered is picked of so many messages.
abbrev pub PicksMade : ℕ → Event → Type 0
PicksMade made (Deliver to picks) = AllByRecursion (IsOfMade made) picks
PicksMade made (Change at time capture command) = Unit {0}
PicksMade made (Update elements) = Unit {0}
PicksMade made (Hold at id) = Unit {0}
PicksMade made (Release at id) = Unit {0}
PicksMade made (Undo at time) = Unit {0}
PicksMade made (Redo at time) = Unit {0}

-- Each event picks of the messages that the events before it make.
abbrev pub PickMade : ℕ → List Event → Type 0
PickMade made [] = Unit {0}
PickMade made (event ∷ events) = PicksMade made event × PickMade (made + messages_of event) events

-- There are 1 to 64 replicas, and not too many events. The seed is within its limit, and those of
-- the scene are elements, each with a key. The events are at these replicas, within their limits,
-- bring elements, and pick of messages that are made.
pub record IsSession (session : Session) : Type 0 where
  pub some : 1 ≤ session.replicas
  pub most : session.replicas ≤ 64
  pub seed : session.seed ≤ greatest_whole
  pub keys : IfSome session.scene (λ (scene : Scene). HaveKeys scene.elements)
  pub elements : IfSome session.scene (λ (scene : Scene). AreElements scene.elements)
  pub few : length session.events ≤ most_events
  pub places : AllByRecursion (IsAmong session.replicas) session.events
  pub limits : AllByRecursion IsEventWithinLimits session.events
  pub brings : AllByRecursion BringsElements session.events
  pub picks : PickMade 0 session.events
