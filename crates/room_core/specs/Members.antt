-- The updates that a member of a room has. This project's own.
use Rattle.std.specs.Prelude.{◌≡◌, ℕ, ◌==◌, List, [], ◌∷◌, ◌++◌, Bool, ◌||◌, Ok, Err, if◌then◌else◌}
use Rattle.elem.specs.ElementValue.{ElementValue}
use Rattle.room_msg.specs.Messages.{IsReadAs}
use Rattle.room_core.specs.Rooms.{RoomState, Happening, Joined, Heard, Left, Nothing, IsRoomAfter, is_among, without, message_updates}

-- One step of a room: what happened, and the room after it.
pub record Step : Type 0 where
  pub happening : Happening
  pub after : RoomState

-- What was heard was read of some bytes.
abbrev pub WasRead : Happening → Type 0
WasRead (Heard link answer) = (bytes : List ℕ) × IsReadAs bytes answer
WasRead (Joined link) = Unit {0}
WasRead (Left links) = Unit {0}
WasRead Nothing = Unit {0}

-- Each step follows on the one before it, from this room on to the last one, and all that was heard
-- was read.
abbrev pub AreSteps : RoomState → List Step → RoomState → Type 0
AreSteps room [] last = last ≡ room
AreSteps room (step ∷ steps) last =
    WasRead step.happening × IsRoomAfter room step.happening step.after
    × AreSteps step.after steps last

-- whether a link is the sender of a message, or is sent its text
abbrev pub has_message : List ℕ → ℕ → ℕ → Bool
has_message joined sender link = sender == link || is_among (without joined (sender ∷ [])) link

-- The updates that a link has once this happened: those of the text with all elements since it
-- joined last, of the messages that it was sent, and of its own.
abbrev pub updates_after : ℕ → RoomState → List ElementValue → Happening → List ElementValue
updates_after link room had (Joined other) = if other == link then room.elements else had
updates_after link room had (Heard sender (Ok message)) =
    if has_message room.joined sender link then had ++ message_updates message else had
updates_after link room had (Heard sender (Err fault)) = had
updates_after link room had (Left links) = had
updates_after link room had Nothing = had

-- the updates that a link has after these steps, and those that it had before them
abbrev pub member_updates : ℕ → RoomState → List ElementValue → List Step → List ElementValue
member_updates link room had [] = had
member_updates link room had (step ∷ steps) =
    member_updates link step.after (updates_after link room had step.happening) steps
