-- A room, and what one event of its links gives. After Excalidraw's collaboration; the order of the
-- texts, and that a fault is told to its sender, is this project's own.
use Rattle.std.specs.Prelude.{◌≡◌, ℕ, ◌==◌, nat_lt, List, [], ◌∷◌, ◌++◌, Bool, not, filter, map, codes, Result, Ok, Err, MatchBool}
use Rattle.std.specs.List.{list_any}
use Rattle.json_text.specs.Characters.{quote}
use Rattle.json_text.specs.Compact.{object_text}
use Rattle.elem.specs.ElementValue.{ElementValue}
use Rattle.elem_store.specs.Updates.{AreStored}
use Rattle.board_ends.specs.declared.links.LinkEvent.{LinkEvent}
use Rattle.board_ends.specs.declared.links.LinkEvent.TheVariants.{Opened, Text, Closed, Idle}
use Rattle.room_msg.specs.Faults.{message_fault_words}
use Rattle.room_msg.specs.Messages.{IsReadAs}
use Rattle.room_msg.specs.Texts.{message_text}
use Rattle.room_msg.specs.declared.fault.MsgFault.{MsgFault}
use Rattle.room_msg.specs.declared.message.Message.{Message}
use Rattle.room_msg.specs.declared.message.Message.TheVariants.{Init, Update, Presence}

-- A room: what is stored of the updates that it took, and its joined links, in rising order.
pub record RoomState : Type 0 where
  pub elements : List ElementValue
  pub joined : List ℕ

-- A room as a value: its state; and how many new ids, and how many new links, there is room for.
-- "As before" is said of the state: what there is room for may have grown.
pub record RoomStock : Type 0 where
  pub state : RoomState
  pub spare_ids : ℕ
  pub spare_links : ℕ

-- whether a link is among these
abbrev pub is_among : List ℕ → ℕ → Bool
is_among links link = list_any (λ other. other == link) links

-- rising links with this one in its place
abbrev pub with_link : List ℕ → ℕ → List ℕ
with_link links link =
    filter (λ other. nat_lt other link) links ++ (link ∷ filter (λ other. nat_lt link other) links)

-- links without these
abbrev pub without : List ℕ → List ℕ → List ℕ
without links gone = filter (λ other. not (is_among gone other)) links

-- What happened in a room: a link joined; bytes of a joined link were read as a message, or as no
-- message; links left; or nothing that counts.
pub data Happening : Type 0 where
  Joined : (link : ℕ) → Happening
  Heard : (link : ℕ) (answer : Result Message MsgFault) → Happening
  Left : (links : List ℕ) → Happening
  Nothing : Happening

-- What an event is to a room with these joined links. Bytes of a link that isn't joined don't
-- count.
abbrev pub IsHeardAs : List ℕ → LinkEvent → Happening → Type 0
IsHeardAs joined (Opened link) happening = happening ≡ Joined link
IsHeardAs joined (Text link bytes) happening =
    MatchBool (is_among joined link) ((answer : Result Message MsgFault) × IsReadAs bytes answer
    × (happening ≡ Heard link answer)) (happening ≡ Nothing)
IsHeardAs joined (Closed link) happening = happening ≡ Left (link ∷ [])
IsHeardAs joined Idle happening = happening ≡ Nothing

-- the updates of a message
abbrev pub message_updates : Message → List ElementValue
message_updates (Init elements) = elements
message_updates (Update elements) = elements
message_updates (Presence value) = []

-- the updates that a room takes where this happened
abbrev pub taken_of : Happening → List ElementValue
taken_of (Joined link) = []
taken_of (Heard link (Ok message)) = message_updates message
taken_of (Heard link (Err fault)) = []
taken_of (Left links) = []
taken_of Nothing = []

-- the joined links after this happened
abbrev pub joined_after : List ℕ → Happening → List ℕ
joined_after joined (Joined link) = with_link joined link
joined_after joined (Heard link answer) = joined
joined_after joined (Left links) = without joined links
joined_after joined Nothing = joined

-- the text that tells a link of the fault of its message
abbrev pub invalid_text : MsgFault → List ℕ
invalid_text fault =
    object_text ((codes "type", quote (codes "INVALID_RESPONSE"))
    ∷ (codes "payload", object_text ((codes "fault", quote (message_fault_words fault)) ∷ []))
    ∷ [])

-- a text for each of these links
abbrev pub text_for_each : List ℕ → List ℕ → List (ℕ × List ℕ)
text_for_each links text = map (λ link. (link, text)) links

-- The texts that a room sends where this happened: one that joins gets all stored elements; a
-- message goes to each other joined link, in rising order; a fault is told to the sender alone.
abbrev pub texts_of : RoomState → Happening → List (ℕ × List ℕ)
texts_of room (Joined link) = (link, message_text (Init room.elements)) ∷ []
texts_of room (Heard link (Ok message)) =
    text_for_each (without room.joined (link ∷ [])) (message_text message)
texts_of room (Heard link (Err fault)) = (link, invalid_text fault) ∷ []
texts_of room (Left links) = []
texts_of room Nothing = []

-- What is stored of a list of updates is, with these at its end, stored as the new elements.
abbrev pub HaveTaken : List ElementValue → List ElementValue → List ElementValue → Type 0
HaveTaken old taken new =
    (updates : List ElementValue) → AreStored updates old → AreStored (updates ++ taken) new

-- A room after this happened in the old one.
pub record IsRoomAfter (old : RoomState) (happening : Happening) (new : RoomState) : Type 0 where
  pub elements : HaveTaken old.elements (taken_of happening) new.elements
  pub joined : new.joined ≡ joined_after old.joined happening

-- What an event of the links gives a room: the new room, and the texts to send.
pub record IsRoomStep (old : RoomState) (event : LinkEvent) (new : RoomState) (texts : List (ℕ
    × List ℕ)) : Type 0 where
  pub happening : Happening
  pub heard : IsHeardAs old.joined event happening
  pub told : texts ≡ texts_of old happening
  pub after : IsRoomAfter old happening new
