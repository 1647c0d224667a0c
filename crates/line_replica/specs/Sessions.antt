-- What lines are as events of a session: those of one of its 64 replicas. This project's own.
use Rattle.std.specs.Prelude.{◌≡◌, ◌⊎◌, ℕ, ◌≤◌, List, [], ◌∷◌, ◌++◌, Result, Ok, Err, length}
use Rattle.elem.specs.ElementValue.{ElementValue}
use Rattle.room_msg.specs.Messages.{IsReadAs}
use Rattle.room_msg.specs.declared.fault.MsgFault.{MsgFault}
use Rattle.room_msg.specs.declared.message.Message.{Message}
use Rattle.session_text.specs.Lines.{LineText, OpeningText}
use Rattle.session_text.specs.Facts.{IsSession}
use Rattle.session_text.specs.Sessions.{made_after, most_events}
use Rattle.session_text.specs.declared.event.Event.{Event}
use Rattle.session_text.specs.declared.event.Event.TheVariants as events
use Rattle.session_text.specs.declared.event.Pick.TheVariants.{All}
use Rattle.session_text.specs.declared.fault.TextFault.{TextFault}
use Rattle.session_text.specs.declared.lines.Line.{Line}
use Rattle.session_text.specs.declared.lines.Line.TheVariants as lines
use Rattle.session_text.specs.declared.lines.Opening.{Opening}
use Rattle.session.specs.Worlds.{head_of, last_world, seat_at}
use Rattle.line_replica.specs.Living.{Living, brought_by, session_of}
use Rattle.line_replica.specs.Talks.{LineReads}

-- so many lines are never too many events
abbrev pub most_lines : ℕ
most_lines = 125000

-- Elements from elsewhere come to a replica with this number: as a message, behind so many others,
-- and its delivery.
abbrev pub taking_events : ℕ → ℕ → List ElementValue → List Event
taking_events number made elements =
    events.Update elements ∷ events.Deliver number (All made ∷ []) ∷ []

-- So does what a message brings; one with a fault brings nothing.
abbrev pub message_events : ℕ → ℕ → Result Message MsgFault → List Event
message_events number made (Ok message) = taking_events number made (brought_by message)
message_events number made (Err fault) = []

-- A line is these events at a replica with this number, where so many messages were made before.
abbrev pub AreEventsOf : ℕ → ℕ → Line → List Event → Type 0
AreEventsOf number made (lines.Change time capture command) es =
    es ≡ events.Change number time capture command ∷ []
AreEventsOf number made (lines.Undo time) es = es ≡ events.Undo number time ∷ []
AreEventsOf number made (lines.Redo time) es = es ≡ events.Redo number time ∷ []
AreEventsOf number made (lines.Take elements) es = es ≡ taking_events number made elements
AreEventsOf number made (lines.Receive text) es =
    (read : Result Message MsgFault) × IsReadAs text read × (es ≡ message_events number made read)
AreEventsOf number made (lines.Hold id) es = es ≡ events.Hold number id ∷ []
AreEventsOf number made (lines.Release id) es = es ≡ events.Release number id ∷ []
AreEventsOf number made lines.Scene es = es ≡ []
AreEventsOf number made lines.State es = es ≡ []
AreEventsOf number made (lines.Stored id) es = es ≡ []
AreEventsOf number made lines.Lengths es = es ≡ []
AreEventsOf number made lines.Pending es = es ≡ []

-- A line with a fault is none.
abbrev pub AreReadEvents : ℕ → ℕ → Result Line TextFault → List Event → Type 0
AreReadEvents number made (Ok line) es = AreEventsOf number made line es
AreReadEvents number made (Err fault) es = es ≡ []

-- Lines of bytes are these events, one after the other.
abbrev pub SayEvents : ℕ → ℕ → List (List ℕ) → List Event → Type 0
SayEvents number made [] es = es ≡ []
SayEvents number made (bytes ∷ lines) es =
    (read : Result Line TextFault) × (first others : List Event) × LineReads LineText bytes read
    × AreReadEvents number made read first × (es ≡ first ++ others)
    × SayEvents number (made_after made first) lines others

-- So they are behind the first one without a fault, which opens the replica.
abbrev pub SaySession : List (List ℕ) → Opening → List Event → Type 0
SaySession [] opening es = ⊥
SaySession (bytes ∷ lines) opening es =
    ((fault : TextFault) × LineReads OpeningText bytes (Err fault) × SaySession lines opening es)
    ⊎ (LineReads OpeningText bytes (Ok opening) × SayEvents opening.number 0 lines es)

-- The lines are events of a session of 64 replicas, at whose end this replica sits at its number.
-- As long as there are not too many, it is a session as read ones are, so that all laws on sessions
-- hold of it.
pub record IsInSession (lines : List (List ℕ)) (l : Living) : Type 0 where
  pub opening : Opening
  pub events : List Event
  pub say : SaySession lines opening events
  pub number : l.number ≡ opening.number
  pub head : l.head ≡ head_of (session_of opening events)
  pub seat : l.seat ≡ seat_at (last_world (session_of opening events)) opening.number
  pub generator : l.generator ≡ (last_world (session_of opening events)).generator
  pub keeps : length events ≤ most_events → IsSession (session_of opening events)
