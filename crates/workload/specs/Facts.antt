-- What holds of every drill. This project's own.
use Rattle.std.specs.Prelude.{◌≡◌, ℕ, ◌<◌, List, ◌++◌, None, Contains, length, map}
use Rattle.std.specs.List.{AllByRecursion}
use Rattle.session_text.specs.Sessions.{made_after}
use Rattle.session_text.specs.declared.event.Event.{Event}
use Rattle.session_text.specs.declared.event.Event.TheVariants.{Change, Update, Deliver, Hold, Release, Undo, Redo}
use Rattle.session_text.specs.declared.event.Pick.TheVariants.{All}
use Rattle.session_text.specs.declared.session.Session.{Session}
use Rattle.workload.specs.Drills.{last_events}
use Rattle.workload.specs.Texts.{rising, falling}

-- No elements come from elsewhere, and none are held off.
abbrev pub IsOfReplicas : Event → Type 0
IsOfReplicas (Change at time capture command) = Unit {0}
IsOfReplicas (Update elements) = ⊥
IsOfReplicas (Deliver to picks) = Unit {0}
IsOfReplicas (Hold at id) = ⊥
IsOfReplicas (Release at id) = ⊥
IsOfReplicas (Undo at time) = Unit {0}
IsOfReplicas (Redo at time) = Unit {0}

-- Four replicas begin with nothing. So many events are followed by four deliveries, one to each
-- replica, of all messages that the events made: rising to the first and the third, falling to the
-- others.
pub record IsDrill (given count : ℕ) (session : Session) : Type 0 where
  pub replicas : session.replicas ≡ 4
  pub seed : session.seed ≡ given
  pub scene : session.scene ≡ None
  pub own : AllByRecursion IsOfReplicas session.events
  pub drawn : List Event
  pub made : ℕ
  pub counted : length drawn ≡ count
  pub messages : made ≡ made_after 0 drawn
  pub events : session.events ≡ drawn ++ last_events made

-- Each message is among those of a delivery of all.
pub record PicksAll (made : ℕ) : Type 0 where
  pub up : (message : ℕ) → message < made → Contains (map All (rising made)) (All message)
  pub down : (message : ℕ) → message < made → Contains (map All (falling made)) (All message)
