-- What ends the room from here on ends it from its start on.
use Rattle.std.proofs.Common.{◌≡◌, ◌≤◌, None}
use Rattle.board_ends.specs.Ends.{KeepsSafe, IsSynced, LinksEnd, SinkEnd}
use Rattle.room_core.specs.Rooms.{RoomState}
use Rattle.room_core.specs.Serving.{at_start, end_of, serving_of}
use Rattle.room_core.proofs.CallerLemmas.{left_of}
use Rattle.room_disk.specs.declared.keep_end.KeepEnd.{KeepEnd}
use Rattle.room_disk.specs.inner.KeptSteps.{IsKeptOn}
use Rattle.room_disk.proofs.keeping.keep_on.Given as goal

abbrev pub invariant-loop-end : goal.invariant-loop-end
invariant-loop-end g l = record {
  kept : (new : RoomState) (after : LinksEnd) (journal : SinkEnd) (end : KeepEnd)
      → IsKeptOn l.limits (serving_of l.room.state l.tally) l.messages new (g.L.Links.seen l.links) after
      (g.J.Sink.seen l.journal) journal end
      → IsKeptOn l.limits (at_start l.initial.room.state) 0 new (g.L.Links.seen l.initial.links) after
      (g.J.Sink.seen l.initial.journal) journal end;
  running : end_of l.limits (serving_of l.room.state l.tally) ≡ None;
  within : l.tally.opened ≤ l.limits.links;
  few : l.messages ≤ l.tally.stepped;
  synced : IsSynced (g.J.Sink.seen l.journal);
  safe : KeepsSafe (g.J.Sink.seen l.initial.journal) (g.J.Sink.seen l.journal);
  port : (g.L.Links.seen l.links).port ≡ (g.L.Links.seen l.initial.links).port;
  listens : (g.L.Links.seen l.links).listens ≡ (g.L.Links.seen l.initial.links).listens;
  counted : (g.L.Links.seen l.initial.links).faults ≤ (g.L.Links.seen l.links).faults;
  gone_counted : (g.L.Links.seen l.initial.links).gone ≤ (g.L.Links.seen l.links).gone;
  journal_counted : (g.J.Sink.seen l.initial.journal).faults ≤ (g.J.Sink.seen l.journal).faults;
}

abbrev pub decreases-loop-end : goal.decreases-loop-end
decreases-loop-end g l = left_of l.limits (serving_of l.room.state l.tally)
