-- What a session's bytes say, and their first fault. This project's own.
use Rattle.std.specs.Prelude.{◌≡◌, ◌⊎◌, ℕ, ◌+◌, ◌<◌, ◌≤◌, List, [], ◌∷◌, true, false, Result, Ok, Err, length, drop}
use Rattle.json_text.specs.Characters.{is_blank}
use Rattle.json_text.specs.Value.{Stands}
use Rattle.json_reader.specs.Faults.{IsFirstFault}
use Rattle.json_reader.specs.declared.fault.JsonFault.{JsonFault}
use Rattle.session_text.specs.Events.{HeaderText, EventText, header}
use Rattle.session_text.specs.declared.event.Event.{Event}
use Rattle.session_text.specs.declared.event.Event.TheVariants.{Change, Update, Deliver, Hold, Release, Undo, Redo}
use Rattle.session_text.specs.declared.fault.TextFault.{TextFault}
use Rattle.session_text.specs.declared.fault.TextFault.TheVariants.{Json}
use Rattle.session_text.specs.declared.fault.SessionFault.{SessionFault}
use Rattle.session_text.specs.declared.fault.SessionFault.TheVariants.{In, TooMany}
use Rattle.session_text.specs.declared.header.Header.{Header}
use Rattle.session_text.specs.declared.session.Session.{Session}

-- the greatest number of events
abbrev pub most_events : ℕ
most_events = 250000

-- At the front a value stands, behind white space and in whatever spelling, and says this; the rest
-- follows it.
abbrev pub StandsAs : {A : Type 0} → (List ℕ → Result A TextFault → Type 0) → List ℕ → A → List ℕ
    → Type 0
StandsAs Says bytes x rest = (text : List ℕ) × Stands bytes text rest × Says text (Ok x)

-- The text behind the offset has this first fault: of its JSON form, or of what it says. Places
-- count over all bytes.
abbrev pub IsTextFaultAt : {A : Type 0} → (List ℕ → Result A TextFault → Type 0) → List ℕ → ℕ
    → TextFault → Type 0
IsTextFaultAt Says bytes at fault =
    ((found : JsonFault) × (fault ≡ Json found) × IsFirstFault bytes at found)
    ⊎ ((text rest : List ℕ) × Stands (drop at bytes) text rest × Says text (Err fault))

-- how many messages an event makes
abbrev pub messages_of : Event → ℕ
messages_of (Change at time capture command) = 1
messages_of (Update elements) = 1
messages_of (Deliver to picks) = 0
messages_of (Hold at id) = 0
messages_of (Release at id) = 0
messages_of (Undo at time) = 1
messages_of (Redo at time) = 1

-- how many messages there are after events, where so many were made before
abbrev pub made_after : ℕ → List Event → ℕ
made_after made [] = made
made_after made (event ∷ events) = made_after (made + messages_of event) events

-- These events stand at the front, one after the other, where so many messages were made before;
-- the rest follows them.
abbrev pub EventsLead : ℕ → ℕ → List ℕ → List Event → List ℕ → Type 0
EventsLead replicas made bytes [] rest = bytes ≡ rest
EventsLead replicas made bytes (event ∷ events) rest =
    (next : List ℕ) × StandsAs (EventText replicas made) bytes event next
    × EventsLead replicas (made + messages_of event) next events rest

-- The header and these events, of which there are not too many, lead up to the offset.
pub record LeadTo (bytes : List ℕ) (head : Header) (events : List Event) (end : ℕ) : Type 0 where
  pub first : List ℕ
  pub heads : StandsAs HeaderText bytes head first
  pub lead : EventsLead head.replicas 0 first events (drop end bytes)
  pub few : length events ≤ most_events
  pub within : end ≤ length bytes

-- The bytes are the texts of this session: behind the last one white space alone is left.
pub record IsSessionOf (bytes : List ℕ) (session : Session) : Type 0 where
  pub end : ℕ
  pub lead : LeadTo bytes (header session.replicas session.seed session.scene) session.events end
  pub space : is_blank (drop end bytes) ≡ true

-- The text of an event has the first fault: behind the header and events more than white space is
-- left. Texts are counted from 1.
pub record HasFaultyEvent (bytes : List ℕ) (number : ℕ) (fault : TextFault) : Type 0 where
  pub head : Header
  pub events : List Event
  pub start : ℕ
  pub lead : LeadTo bytes head events start
  pub more : is_blank (drop start bytes) ≡ false
  pub fewer : length events < most_events
  pub counted : number ≡ length events + 2
  pub faulty : IsTextFaultAt (EventText head.replicas (made_after 0 events)) bytes start fault

-- Behind as many events as there may be more than white space is left.
pub record HasTooMany (bytes : List ℕ) : Type 0 where
  pub head : Header
  pub events : List Event
  pub end : ℕ
  pub lead : LeadTo bytes head events end
  pub full : length events ≡ most_events
  pub more : is_blank (drop end bytes) ≡ false

-- The first fault of bytes that are no session. One text at least is needed: the header.
abbrev pub IsSessionFault : List ℕ → SessionFault → Type 0
IsSessionFault bytes (In number fault) =
    ((number ≡ 1) × IsTextFaultAt HeaderText bytes 0 fault) ⊎ HasFaultyEvent bytes number fault
IsSessionFault bytes TooMany = HasTooMany bytes
