-- A room that is served over links: what comes of each event, and what ends it. This project's own.
use Rattle.std.specs.Prelude.{◌≡◌, ◌⊎◌, ℕ, ◌+◌, ◌≤◌, nat_lt, nat_le, List, [], ◌∷◌, ◌++◌, Bool, true, false, ◌&&◌, map, flat_map, option_to_list, Option, Some, None, if◌then◌else◌}
use Rattle.board_ends.specs.declared.links.LinkEvent.{LinkEvent}
use Rattle.board_ends.specs.declared.links.LinkEvent.TheVariants.{Opened, Idle}
use Rattle.board_ends.specs.Events.{opening_of}
use Rattle.room_core.specs.Rooms.{RoomState, Happening, Left, IsHeardAs, IsRoomAfter, texts_of, without}
use Rattle.room_core.specs.Members.{Step}
use Rattle.board_ends.specs.Ends.{LinksEnd}
use Rattle.room_core.specs.Told.{Try, Tells, texts_tried, links_gone}
use Rattle.room_core.specs.declared.tally.Tally.{Tally}
use Rattle.room_core.specs.declared.limits.RoomLimits.{RoomLimits}
use Rattle.room_core.specs.declared.limits.ServeEnd.{ServeEnd}
use Rattle.room_core.specs.declared.limits.ServeEnd.TheVariants.{AllClosed, Idle as IdleEnd, LinkFault, LinksFull, EventsFull, Memory}

-- A room under way: how many links were opened, how many events other than Idle were stepped, and
-- how many answers Idle came last in a row.
pub record Serving : Type 0 where
  pub room : RoomState
  pub opened : ℕ
  pub stepped : ℕ
  pub idles : ℕ

-- before the first event
abbrev pub at_start : RoomState → Serving
at_start room = record { room = room; opened = 0; stepped = 0; idles = 0 }

-- An event that was stepped whole: what happened, the room then, the texts that were tried, and the
-- room without the links that were gone.
pub record Round : Type 0 where
  pub event : LinkEvent
  pub happening : Happening
  pub stepped : RoomState
  pub tries : List Try
  pub after : RoomState

-- A round in this room. All its texts were tried, before any link left that was gone.
pub record IsRound (room : RoomState) (round : Round) : Type 0 where
  pub heard : IsHeardAs room.joined round.event round.happening
  pub stepped : IsRoomAfter room round.happening round.stepped
  pub tried : texts_tried round.tries ≡ texts_of room round.happening
  pub after : round.after ≡ record round.stepped {
    joined = without round.stepped.joined (links_gone round.tries);
  }

-- how many events are counted for this one
abbrev pub step_count : LinkEvent → ℕ
step_count Idle = 0
step_count event = 1

-- how many answers Idle came in a row, after this one
abbrev pub idles_after : ℕ → LinkEvent → ℕ
idles_after idles Idle = idles + 1
idles_after idles event = 0

-- the room under way after one more round
abbrev pub serving_after : Serving → Round → Serving
serving_after now round = record {
  room = round.after;
  opened = now.opened + opening_of round.event;
  stepped = now.stepped + step_count round.event;
  idles = idles_after now.idles round.event;
}

-- and after several
abbrev pub serving_at : Serving → List Round → Serving
serving_at now [] = now
serving_at now (round ∷ rounds) = serving_at (serving_after now round) rounds

-- whether a list is empty
abbrev pub is_none_joined : List ℕ → Bool
is_none_joined [] = true
is_none_joined (link ∷ links) = false

-- what ends a room by these counts: a link was opened and none is joined; else enough events were
-- stepped; or Idle came often enough in a row
abbrev pub end_by : RoomLimits → ℕ → ℕ → ℕ → List ℕ → Option ServeEnd
end_by limits opened stepped idles joined =
    if nat_lt 0 opened && is_none_joined joined then Some AllClosed
    else (if nat_le limits.events stepped then Some EventsFull else
    (if nat_le limits.idle idles then Some IdleEnd else None))

-- what ends a room under way
abbrev pub end_of : RoomLimits → Serving → Option ServeEnd
end_of limits now = end_by limits now.opened now.stepped now.idles now.room.joined

-- Each round follows on the one before it; nothing had ended the room before any of them, and none
-- opened one link too many.
abbrev pub AreRounds : RoomLimits → Serving → List Round → Type 0
AreRounds limits now [] = Unit {0}
AreRounds limits now (round ∷ rounds) =
    (end_of limits now ≡ None) × (now.opened + opening_of round.event ≤ limits.links)
    × IsRound now.room round × AreRounds limits (serving_after now round) rounds

-- A step that ended for want of memory: it was not made, and nothing was sent; or it was made, and
-- the first of its texts were tried.
pub record IsHalfStep (room : RoomState) (event : LinkEvent) (new : RoomState)
    (tries : List Try) : Type 0 where
  pub happening : Happening
  pub heard : IsHeardAs room.joined event happening
  pub stepped : IsRoomAfter room happening new
  pub rest : List (ℕ × List ℕ)
  pub tried : texts_of room happening ≡ texts_tried tries ++ rest

abbrev pub IsCutShort : RoomState → Option LinkEvent → RoomState → List Try → Type 0
IsCutShort room None new tries = (new ≡ room) × (tries ≡ [])
IsCutShort room (Some event) new tries =
    ((new ≡ room) × (tries ≡ [])) ⊎ IsHalfStep room event new tries

-- The end of a room under way after its whole rounds, by its cause; the last event, if one was
-- given that was not stepped whole, and the texts tried for it.
abbrev pub EndsBy : RoomLimits → Serving → Option LinkEvent → RoomState → List Try → ServeEnd
    → Type 0
EndsBy limits now last new tries LinkFault =
    (end_of limits now ≡ None) × (last ≡ None) × (new ≡ now.room) × (tries ≡ [])
EndsBy limits now last new tries LinksFull =
    (end_of limits now ≡ None) × (now.opened ≡ limits.links)
    × ((link : ℕ) × (last ≡ Some (Opened link))) × (new ≡ now.room) × (tries ≡ [])
EndsBy limits now last new tries Memory =
    (end_of limits now ≡ None) × IsCutShort now.room last new tries
EndsBy limits now last new tries end =
    (end_of limits now ≡ Some end) × (last ≡ None) × (new ≡ now.room) × (tries ≡ [])

-- A room was served from here on to its end: rounds, and then what ended it; and the links told
-- just these events, and the texts tried for them.
pub record IsServed (limits : RoomLimits) (now : Serving) (new : RoomState)
    (before after : LinksEnd) (end : ServeEnd) : Type 0 where
  pub rounds : List Round
  pub are_rounds : AreRounds limits now rounds
  pub last : Option LinkEvent
  pub last_tries : List Try
  pub ended : EndsBy limits (serving_at now rounds) last new last_tries end
  pub told : Tells before after (map (λ (round : Round). round.event) rounds ++ option_to_list last)
      (flat_map (λ (round : Round). round.tries) rounds ++ last_tries)

-- the steps of rounds: what happened, and that the links left that were gone
abbrev pub steps_of : List Round → List Step
steps_of [] = []
steps_of (round ∷ rounds) =
    record { happening = round.happening; after = round.stepped }
    ∷ (record { happening = Left (links_gone round.tries); after = round.after } ∷ steps_of rounds)

-- a room under way with these counts
abbrev pub serving_of : RoomState → Tally → Serving
serving_of room tally =
    record { room = room; opened = tally.opened; stepped = tally.stepped; idles = tally.idles }
