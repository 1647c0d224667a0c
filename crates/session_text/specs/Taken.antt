-- What is made of the texts of a session, which are taken one after the other. This project's own.
use Rattle.std.specs.Prelude.{◌≡◌, ℕ, ◌+◌, ◌==◌, List, [], ◌∷◌, ◌++◌, Bool, false, Option, Some, None, IfSome, IfNone, Ok, Err, length}
use Rattle.session_text.specs.Events.{HeaderText, EventText, header}
use Rattle.session_text.specs.Facts.{IsSession}
use Rattle.session_text.specs.Sessions.{most_events, made_after}
use Rattle.session_text.specs.declared.event.Event.{Event}
use Rattle.session_text.specs.declared.fault.TextFault.{TextFault}
use Rattle.session_text.specs.declared.header.Header.{Header}
use Rattle.session_text.specs.declared.session.Session.{Session}

-- the session with one event more
abbrev pub with_event : Session → Event → Session
with_event session event = record session { events = session.events ++ event ∷ [] }

-- The text is that of the header, or of the next event; before it this is the session so far, and
-- with it that one.
abbrev pub TakesText : Option Session → List ℕ → Option Session → Type 0
TakesText None text None = ⊥
TakesText None text (Some session) =
    HeaderText text (Ok (header session.replicas session.seed session.scene))
    × (session.events ≡ [])
TakesText (Some before) text None = ⊥
TakesText (Some before) text (Some session) =
    (event : Event) × EventText before.replicas (made_after 0 before.events) text (Ok event)
    × (session ≡ with_event before event)

-- The text of the header, or of the next event, has this fault.
abbrev pub IsNextFault : Option Session → List ℕ → TextFault → Type 0
IsNextFault None text fault = HeaderText text (Err fault)
IsNextFault (Some session) text fault =
    EventText session.replicas (made_after 0 session.events) text (Err fault)

-- whether no further event may come
abbrev pub is_full : Option Session → Bool
is_full None = false
is_full (Some session) = length session.events == most_events

-- how many texts were taken: the header's, and those of the events
abbrev pub texts_in : Option Session → ℕ
texts_in None = 0
texts_in (Some session) = length session.events + 1

-- the session so far, of a header that was taken and of events
abbrev pub session_so_far : Option Header → List Event → Option Session
session_so_far None events = None
session_so_far (Some head) events =
    Some (record {
      replicas = head.replicas;
      seed = head.seed;
      scene = head.scene;
      events =
          events;
    })

-- What is kept of a session so far: it is one, and so many messages were made by its events. Before
-- the header there is none.
pub record IsFeed (head : Option Header) (events : List Event) (made : ℕ) : Type 0 where
  pub kept : IfSome (session_so_far head events) IsSession
  pub counted : made ≡ made_after 0 events
  pub begun : IfNone head (events ≡ [])
