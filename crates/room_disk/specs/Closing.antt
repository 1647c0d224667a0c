-- Links whose events bring a durable room to a close. This project's own.
use Rattle.std.specs.Prelude.{◌≡◌, List, ◌++◌, map, flat_map, Some}
use Rattle.board_ends.specs.Ends.{LinksEnd}
use Rattle.board_ends.specs.declared.links.LinkEvent.{LinkEvent}
use Rattle.room_core.specs.Closing.{TellAll}
use Rattle.room_core.specs.Serving.{Serving, Round, end_of, serving_at}
use Rattle.room_core.specs.Told.{Try, Tells}
use Rattle.room_core.specs.declared.limits.RoomLimits.{RoomLimits}
use Rattle.room_core.specs.declared.limits.ServeEnd.TheVariants.{AllClosed}
use Rattle.room_disk.specs.Keeping.{AreKeptRounds}

-- The links tell all. They told rounds of a durable room that follow on one another, and then
-- perhaps more. Before each round no link too many was opened, fewer answers Idle came in a row
-- than end the room, and fewer other events; and after the last one, and no earlier one, a link was
-- opened and none is joined.
pub record LeadToKeptClose (limits : RoomLimits) (now : Serving)
    (before after : LinksEnd) : Type 0 where
  pub tell : TellAll before
  pub rounds : List Round
  pub are_rounds : AreKeptRounds limits now 0 rounds
  pub closed : end_of limits (serving_at now rounds) ≡ Some AllClosed
  pub more : List LinkEvent
  pub more_tries : List Try
  pub told : Tells before after (map (λ (round : Round). round.event) rounds ++ more)
      (flat_map (λ (round : Round). round.tries) rounds ++ more_tries)
