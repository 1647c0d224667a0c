use Rattle.std.proofs.Common.{◌⊎◌, subst}
use Rattle.room_core.specs.Rooms.{RoomState}
use Rattle.room_disk.specs.Keeping.{IsKept, IsUnopened}
use Rattle.commands.proofs.keeping.keep.Goals as goal

pub returns-clause-kept : goal.returns-clause-kept
returns-clause-kept g c =
    let begun = c.in_ok-head.ensures.begun in
    record {
      bytes = begun.0;
      read = begun.1;
      begun = record { head = c.in_ok-head.head; stored = c.in_ok-head.store.elements };
      begins = begun.2;
      last = c.keep_room-end.new.room.state;
      kept =
          subst (λ (state : RoomState). (IsUnopened c.in_ok-head.head state c.keep_room-end.new.room.state
          (g.L.Links.seen c.args.links.now) (g.L.Links.seen c.keep_room-end.new.links)
          (g.K.Sink.seen c.args.output.now) (g.K.Sink.seen c.keep_room-end.new.journal) c.keep_room-end.result)
          ⊎ (IsKept c.args.keeping.limits c.in_ok-head.head c.args.keeping.port state c.keep_room-end.new.room.state
          (g.L.Links.seen c.args.links.now) (g.L.Links.seen c.keep_room-end.new.links)
          (g.K.Sink.seen c.args.output.now) (g.K.Sink.seen c.keep_room-end.new.journal) c.keep_room-end.result))
          c.new-room.ensures c.keep_room-end.ensures.kept;
      link_rose = c.keep_room-end.ensures.fault;
      output_rose = c.keep_room-end.ensures.journal_fault;
    }
