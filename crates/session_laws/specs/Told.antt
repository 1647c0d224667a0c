-- Sessions at whose end each replica is told of every message. This project's own.
use Rattle.std.specs.Prelude.{◌≡◌, ℕ, ◌<◌, List, ◌++◌, Contains}
use Rattle.std.specs.List.{AllByRecursion}
use Rattle.session_text.specs.Sessions.{made_after}
use Rattle.session_text.specs.declared.event.Event.{Event}
use Rattle.session_text.specs.declared.event.Event.TheVariants.{Change, Update, Deliver, Hold, Release, Undo, Redo}
use Rattle.session_text.specs.declared.event.Pick.{Pick}
use Rattle.session_text.specs.declared.event.Pick.TheVariants.{All}
use Rattle.session_text.specs.declared.session.Session.{Session}

-- The event holds off no updates.
abbrev pub IsNoHold : Event → Type 0
IsNoHold (Change at time capture command) = Unit {0}
IsNoHold (Update elements) = Unit {0}
IsNoHold (Deliver to picks) = Unit {0}
IsNoHold (Hold at id) = ⊥
IsNoHold (Release at id) = Unit {0}
IsNoHold (Undo at time) = Unit {0}
IsNoHold (Redo at time) = Unit {0}

-- None of the session's events does.
abbrev pub HasNoHolds : Session → Type 0
HasNoHolds session = AllByRecursion IsNoHold session.events

-- The event is a delivery.
abbrev pub IsDelivery : Event → Type 0
IsDelivery (Change at time capture command) = ⊥
IsDelivery (Update elements) = ⊥
IsDelivery (Deliver to picks) = Unit {0}
IsDelivery (Hold at id) = ⊥
IsDelivery (Release at id) = ⊥
IsDelivery (Undo at time) = ⊥
IsDelivery (Redo at time) = ⊥

-- One of the events delivers the message with this number, whole, to the replica with that one.
pub record IsDelivered (events : List Event) (at message : ℕ) : Type 0 where
  pub picks : List Pick
  pub delivery : Contains events (Deliver at picks)
  pub whole : Contains picks (All message)

-- The last events are deliveries, and tell each replica of each message that the events before them
-- make.
pub record IsToldAll (session : Session) : Type 0 where
  pub first : List Event
  pub last : List Event
  pub events : session.events ≡ first ++ last
  pub deliveries : AllByRecursion IsDelivery last
  pub told : (at message : ℕ) → at < session.replicas → message < made_after 0 first
      → IsDelivered last at message
