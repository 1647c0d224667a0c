-- What ends the room from here on ends it from its start on.
use Rattle.std.proofs.Common.{◌≡◌, ◌≤◌, None}
use Rattle.room_core.specs.Rooms.{RoomState}
use Rattle.board_ends.specs.Ends.{LinksEnd}
use Rattle.room_core.specs.Serving.{IsServed, at_start, end_of, serving_of}
use Rattle.room_core.specs.declared.limits.ServeEnd.{ServeEnd}
use Rattle.room_core.proofs.Served.{left_of}
use Rattle.room_core.proofs.serving.serve_room.Given as goal

abbrev pub invariant-loop-end : goal.invariant-loop-end
invariant-loop-end g l = record {
  served : (new : RoomState) (after : LinksEnd) (end : ServeEnd)
      → IsServed l.limits (serving_of l.room.state l.tally) new (g.L.Links.seen l.links) after end
      → IsServed l.limits (at_start l.initial.room.state) new (g.L.Links.seen l.initial.links) after end;
  running : end_of l.limits (serving_of l.room.state l.tally) ≡ None;
  within : l.tally.opened ≤ l.limits.links;
  port : (g.L.Links.seen l.links).port ≡ (g.L.Links.seen l.initial.links).port;
  listens : (g.L.Links.seen l.links).listens ≡ (g.L.Links.seen l.initial.links).listens;
  counted : (g.L.Links.seen l.initial.links).faults ≤ (g.L.Links.seen l.links).faults;
  gone_counted : (g.L.Links.seen l.initial.links).gone ≤ (g.L.Links.seen l.links).gone;
}

abbrev pub decreases-loop-end : goal.decreases-loop-end
decreases-loop-end g l = left_of l.limits (serving_of l.room.state l.tally)
