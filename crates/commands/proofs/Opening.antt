-- A room whose links are called once to listen.
use Rattle.std.proofs.Common.{◌≡◌, ℕ, ◌≤◌, false, [], nat_le, None, refl, arith}
use Rattle.std.proofs.lemmas.Bool.Decides.{nat_tests}
use Rattle.board_ends.specs.Ends.{LinksEnd}
use Rattle.room_core.specs.Rooms.{RoomState}
use Rattle.room_core.specs.Serving.{Serving, at_start, end_of, IsServed}
use Rattle.room_core.specs.Told.{Tells}
use Rattle.room_core.specs.declared.limits.ServeEnd.{ServeEnd}
use Rattle.room_core.specs.declared.limits.ServeEnd.TheVariants.{LinkFault, Memory}
use Rattle.room_core.specs.declared.limits.RoomLimits.{RoomLimits}
use Rattle.room_core.proofs.CallerLemmas.{tells-twice}
use Rattle.commands.specs.inner.Services.{IsService}
use Rattle.commands.specs.declared.words.Service.{Service}

above : (n : ℕ) → 1 ≤ n → nat_le n 0 ≡ false
above n h = grind (arith, nat_tests)

runs : (service : Service) (room : RoomState) → IsService service → end_of service.limits (at_start room) ≡ None
runs service room is = rw (above service.limits.events is.events, above service.limits.idle is.idle) refl

-- where they don't listen, the room is served by no event
pub failed-at_once : (service : Service) (room : RoomState) (a b : LinksEnd) → Tells a b [] [] → IsService service
    → IsServed service.limits (at_start room) room a b LinkFault
failed-at_once service room a b told is = record {
  rounds = [];
  are_rounds = tt;
  last = None;
  last_tries = [];
  ended = (runs service room is, refl, refl, refl);
  told = told;
}

pub wanted-at_once : (service : Service) (room : RoomState) (a b : LinksEnd) → Tells a b [] [] → IsService service
    → IsServed service.limits (at_start room) room a b Memory
wanted-at_once service room a b told is = record {
  rounds = [];
  are_rounds = tt;
  last = None;
  last_tries = [];
  ended = (runs service room is, (refl, refl));
  told = told;
}

-- where they do, it is served by what they tell after that
pub served-since : (limits : RoomLimits) (now : Serving) (new : RoomState) (a b c : LinksEnd) (end : ServeEnd)
    → Tells a b [] [] → IsServed limits now new b c end
    → IsServed limits now new a c end
served-since limits now new a b c end first served = record {
  rounds = served.rounds;
  are_rounds = served.are_rounds;
  last = served.last;
  last_tries = served.last_tries;
  ended = served.ended;
  told = tells-twice a b c [] _ [] _ first served.told;
}
