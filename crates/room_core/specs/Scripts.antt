-- A room over a script of events, with sends whose links are gone by choice. This project's own.
use Rattle.std.specs.Prelude.{◌≡◌, ◌≢◌, ℕ, zero, suc, ◌+◌, List, [], ◌∷◌, Bool, not, drop, Some, None}
use Rattle.board_ends.specs.Ends.{LinksEnd}
use Rattle.board_ends.specs.Script.{next_event}
use Rattle.board_ends.specs.declared.links.LinkEvent.{LinkEvent}
use Rattle.room_core.specs.Rooms.{RoomState}
use Rattle.room_core.specs.Serving.{IsServed, at_start}
use Rattle.room_core.specs.Told.{Try, texts_sent, texts_lost}
use Rattle.room_core.specs.declared.limits.RoomLimits.{RoomLimits}
use Rattle.room_core.specs.declared.limits.ServeEnd.{ServeEnd}
use Rattle.room_core.specs.declared.limits.ServeEnd.TheVariants.{LinkFault, Memory}

-- the first events of a script, after the last of which nothing happens any more
abbrev pub first_events : ℕ → List LinkEvent → List LinkEvent
first_events zero script = []
first_events (suc count) script = next_event script ∷ first_events count (drop 1 script)

-- Of these texts, numbered on from this one, those with the chosen numbers found their link gone,
-- and the others were sent.
abbrev pub AreLostBy : (ℕ → Bool) → ℕ → List Try → Type 0
AreLostBy is_lost number [] = Unit {0}
AreLostBy is_lost number (try ∷ tries) =
    (try.is_sent ≡ not (is_lost number)) × AreLostBy is_lost (number + 1) tries

-- links that told these events, and what came of these texts, and nothing else
abbrev pub links_told : List LinkEvent → List Try → LinksEnd
links_told events tries = record {
  port = None;
  listens = 0;
  given = Some events;
  sent = Some (texts_sent tries);
  lost = Some (texts_lost 0 tries);
  faults = 0;
  gone = 0;
}

-- A room has a trace over a script, of whose texts those with the chosen numbers find their link
-- gone: it is served over links that told just the first events of the script, to an end that is
-- neither want of memory nor a fault of the links.
pub record HasTrace (limits : RoomLimits) (room : RoomState) (script : List LinkEvent) (is_lost : ℕ
    → Bool) : Type 0 where
  pub new : RoomState
  pub end : ServeEnd
  pub count : ℕ
  pub tries : List Try
  pub served : IsServed limits (at_start room) new (links_told [] [])
      (links_told (first_events count script) tries) end
  pub lost : AreLostBy is_lost 0 tries
  pub no_memory : end ≢ Memory
  pub no_fault : end ≢ LinkFault
