-- Sessions in which every update comes from a replica. This project's own.
use Rattle.std.specs.List.{AllByRecursion}
use Rattle.session_text.specs.declared.event.Event.{Event}
use Rattle.session_text.specs.declared.event.Event.TheVariants.{Change, Update, Deliver, Hold, Release, Undo, Redo}
use Rattle.session_text.specs.declared.session.Session.{Session}

-- The event brings no update from elsewhere.
abbrev pub IsOwnEvent : Event → Type 0
IsOwnEvent (Change at time capture command) = Unit {0}
IsOwnEvent (Update elements) = ⊥
IsOwnEvent (Deliver to picks) = Unit {0}
IsOwnEvent (Hold at id) = Unit {0}
IsOwnEvent (Release at id) = Unit {0}
IsOwnEvent (Undo at time) = Unit {0}
IsOwnEvent (Redo at time) = Unit {0}

-- None of the session's events does.
abbrev pub HasOwnUpdates : Session → Type 0
HasOwnUpdates session = AllByRecursion IsOwnEvent session.events
