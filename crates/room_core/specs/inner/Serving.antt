-- A room that is served over links: what comes of each event, and what ends it. This project's own.
-- Only this crate's own bodies and proofs need it.
use Rattle.std.specs.Prelude.{◌≡◌, ◌+◌, ◌≤◌, List, [], ◌∷◌, Some}
use Rattle.board_ends.specs.declared.links.LinkEvent.{LinkEvent}
use Rattle.board_ends.specs.Events.{opening_of}
use Rattle.room_core.specs.Rooms.{RoomState}
use Rattle.board_ends.specs.Ends.{LinksEnd}
use Rattle.room_core.specs.Told.{Try, Tells}
use Rattle.room_core.specs.declared.limits.RoomLimits.{RoomLimits}
use Rattle.room_core.specs.Serving.{Serving, Round, IsRound, serving_after, IsCutShort}

-- One event was served: a round, and the texts that were tried for it are told.
pub record IsServedEvent (room : RoomState) (event : LinkEvent) (new : RoomState)
    (before after : LinksEnd) : Type 0 where
  pub round : Round
  pub of : round.event ≡ event
  pub is_round : IsRound room round
  pub room_after : new ≡ round.after
  pub told : Tells before after [] round.tries

-- An event whose step ended for want of memory, and the texts that were tried for it.
pub record IsCutEvent (room : RoomState) (event : LinkEvent) (new : RoomState)
    (before after : LinksEnd) : Type 0 where
  pub tries : List Try
  pub cut : IsCutShort room (Some event) new tries
  pub told : Tells before after [] tries

-- One event was given and served whole.
pub record IsServedRound (limits : RoomLimits) (now next : Serving)
    (before after : LinksEnd) : Type 0 where
  pub round : Round
  pub within : now.opened + opening_of round.event ≤ limits.links
  pub is_round : IsRound now.room round
  pub follows : next ≡ serving_after now round
  pub told : Tells before after (round.event ∷ []) round.tries
