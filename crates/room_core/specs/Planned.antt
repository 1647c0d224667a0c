-- A step of a room that is planned, and put in place later. This project's own.
use Rattle.std.specs.Prelude.{◌≡◌, ℕ, ◌<◌, ◌≤◌, List, [], ◌∷◌, length, Option, Some, None, Ok, Err}
use Rattle.elem.specs.ElementValue.{ElementValue}
use Rattle.board_ends.specs.declared.links.LinkEvent.{LinkEvent}
use Rattle.room_msg.specs.Texts.{message_text}
use Rattle.room_msg.specs.declared.message.Message.{Message}
use Rattle.room_msg.specs.declared.message.Message.TheVariants.{Init, Update, Presence}
use Rattle.room_core.specs.Rooms.{RoomState, RoomStock, Happening, Joined, Heard, Left, Nothing, IsHeardAs, HaveTaken, taken_of, joined_after, texts_of, text_for_each, with_link, without}
use Rattle.room_core.specs.declared.plan.Change.{Change}
use Rattle.room_core.specs.declared.plan.Change.TheVariants.{Join, Take, Leave, Unchanged}
use Rattle.room_core.specs.declared.plan.Told.{Told}
use Rattle.room_core.specs.declared.plan.Plan.{Plan}

-- the texts that are told, with their links
abbrev pub texts_told : Told → List (ℕ × List ℕ)
texts_told told = text_for_each told.links told.text

-- the updates that a change takes
abbrev pub taken_by : Change → List ElementValue
taken_by (Join link) = []
taken_by (Take elements) = elements
taken_by (Leave link) = []
taken_by Unchanged = []

-- the joined links after a change
abbrev pub joined_by : List ℕ → Change → List ℕ
joined_by joined (Join link) = with_link joined link
joined_by joined (Take elements) = joined
joined_by joined (Leave link) = without joined (link ∷ [])
joined_by joined Unchanged = joined

-- Room for so many new ids and new links is enough for a change.
abbrev pub Suffices : Change → ℕ → ℕ → Type 0
Suffices (Join link) ids links = 0 < links
Suffices (Take elements) ids links = length elements ≤ ids
Suffices (Leave link) ids links = Unit {0}
Suffices Unchanged ids links = Unit {0}

-- The change fits in the room: it takes no memory.
abbrev pub FitsIn : Change → RoomStock → Type 0
FitsIn change room = Suffices change room.spare_ids room.spare_links

-- A room after a change of the old one.
pub record IsChanged (old : RoomState) (change : Change) (new : RoomState) : Type 0 where
  pub elements : HaveTaken old.elements (taken_by change) new.elements
  pub joined : new.joined ≡ joined_by old.joined change

-- the record of a message, for a journal: the text of the update with its elements
abbrev pub record_of_message : Message → Option (List ℕ)
record_of_message (Init elements) = Some (message_text (Update elements))
record_of_message (Update elements) = Some (message_text (Update elements))
record_of_message (Presence value) = None

-- the record of what happened: that of a message that was heard
abbrev pub record_of : Happening → Option (List ℕ)
record_of (Joined link) = None
record_of (Heard link (Ok message)) = record_of_message message
record_of (Heard link (Err fault)) = None
record_of (Left links) = None
record_of Nothing = None

-- the record of a change that takes elements: this one, or else the text that is told
abbrev pub recorded : Change → Option (List ℕ) → List ℕ → Option (List ℕ)
recorded (Join link) own text = None
recorded (Take elements) (Some record_text) text = Some record_text
recorded (Take elements) None text = Some text
recorded (Leave link) own text = None
recorded Unchanged own text = None

-- the record of a planned step
abbrev pub record_in : Plan → Option (List ℕ)
record_in plan = recorded plan.change plan.own_record plan.told.text

-- What is planned for an event: what happened, the texts that this gives, what it changes, and its
-- record.
pub record IsPlanned (old : RoomState) (event : LinkEvent) (plan : Plan) : Type 0 where
  pub happening : Happening
  pub heard : IsHeardAs old.joined event happening
  pub told : texts_told plan.told ≡ texts_of old happening
  pub taken : taken_by plan.change ≡ taken_of happening
  pub joined : joined_by old.joined plan.change ≡ joined_after old.joined happening
  pub kept : record_in plan ≡ record_of happening
