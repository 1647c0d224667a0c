-- A durable room over a script of events, with sends whose links are gone by choice. This project's
-- own.
use Rattle.std.specs.Prelude.{◌≡◌, ◌≢◌, ℕ, List, Bool}
use Rattle.board_ends.specs.declared.links.LinkEvent.{LinkEvent}
use Rattle.room_core.specs.Rooms.{RoomState}
use Rattle.room_core.specs.Scripts.{AreLostBy, first_events}
use Rattle.room_core.specs.Serving.{at_start}
use Rattle.room_core.specs.declared.limits.RoomLimits.{RoomLimits}
use Rattle.room_disk.specs.Keeping.{Account, IsAccount, events_in, tries_in}
use Rattle.room_disk.specs.declared.keep_end.KeepEnd.{KeepEnd}
use Rattle.room_disk.specs.declared.keep_end.KeepEnd.TheVariants.{JournalFault, LinkFault, Memory}

-- A durable room has a trace over a script, of whose texts those with the chosen numbers find their
-- link gone: an account of just the first events of the script. Its end is not caused by a failed
-- allocation, nor by a fault of the links or of the journal.
pub record HasKeptTrace (limits : RoomLimits) (room : RoomState) (script : List LinkEvent)
    (is_lost : ℕ → Bool) : Type 0 where
  pub new : RoomState
  pub end : KeepEnd
  pub count : ℕ
  pub account : Account
  pub is : IsAccount limits (at_start room) 0 new end account
  pub given : events_in account ≡ first_events count script
  pub lost : AreLostBy is_lost 0 (tries_in account)
  pub no_memory : end ≢ Memory
  pub no_link_fault : end ≢ LinkFault
  pub no_journal_fault : end ≢ JournalFault
