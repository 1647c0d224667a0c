-- What the reader of a session has read. This project's own.
use Rattle.std.specs.Prelude.{◌≡◌, ℕ, ◌+◌, ◌≤◌, List, [], ◌∷◌, false, Option, Some, None, is_none, Ok, length}
use Rattle.input_texts.specs.Texts.{Reading}
use Rattle.input_texts.specs.declared.reading.Stopped.{Stopped}
use Rattle.input_texts.specs.declared.reading.Stopped.TheVariants.{Faulty, Refused, Extra}
use Rattle.session_text.specs.Events.{HeaderText, EventText, header}
use Rattle.session_text.specs.Sessions.{messages_of, most_events}
use Rattle.session_text.specs.Taken.{IsNextFault, is_full}
use Rattle.session_text.specs.declared.event.Event.{Event}
use Rattle.session_text.specs.declared.fault.TextFault.{TextFault}
use Rattle.session_text.specs.declared.fault.TextFault.TheVariants.{Json}
use Rattle.session_text.specs.declared.session.Session.{Session}
use Rattle.commands.specs.declared.status.InputRefusal.{InputRefusal}
use Rattle.commands.specs.declared.status.InputRefusal.TheVariants as refusal

-- The texts are those of the events, one by one, where so many messages were made before.
abbrev pub SayEvents : ℕ → ℕ → List (List ℕ) → List Event → Type 0
SayEvents replicas made [] [] = Unit {0}
SayEvents replicas made [] (event ∷ events) = ⊥
SayEvents replicas made (text ∷ texts) [] = ⊥
SayEvents replicas made (text ∷ texts) (event ∷ events) =
    EventText replicas made text (Ok event)
    × SayEvents replicas (made + messages_of event) texts events

-- The texts are those of the session so far: its header's, and those of its events, of which there
-- are not too many.
abbrev pub SaySession : List (List ℕ) → Option Session → Type 0
SaySession [] None = Unit {0}
SaySession (text ∷ texts) None = ⊥
SaySession [] (Some session) = ⊥
SaySession (text ∷ texts) (Some session) =
    HeaderText text (Ok (header session.replicas session.seed session.scene))
    × SayEvents session.replicas 0 texts session.events × (length session.events ≤ most_events)

-- what is seen of a reader of a session: it needs a header, and takes no event behind the greatest
-- number of them
abbrev pub session_seen : Option Session → Reading TextFault
session_seen state = record {
  has_read = λ texts. SaySession texts state;
  refuses = λ texts text fault. SaySession texts state × (is_full state ≡ false)
      × IsNextFault state text fault;
  is_full = is_full state;
  needs_text = is_none state;
}

-- what an input that is to be a session is refused for, whose text with this number isn't read
abbrev pub session_refusal_of : ℕ → Stopped TextFault → InputRefusal
session_refusal_of number (Faulty fault) = refusal.Event number (Json fault)
session_refusal_of number (Refused fault) = refusal.Event number fault
session_refusal_of number (Extra place) = refusal.TooMany
