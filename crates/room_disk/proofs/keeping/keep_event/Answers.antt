-- A step is kept and made, and its texts are tried; or it ends before.
use Rattle.std.proofs.Common.{◌++◌, [], refl, subst}
use Rattle.std.proofs.lemmas.Result.{err_from_is_err_and}
use Rattle.room_core.specs.Planned.{IsChanged, record_in, texts_told}
use Rattle.room_core.specs.Rooms.{RoomState}
use Rattle.room_core.specs.Told.{HaveTried}
use Rattle.room_disk.specs.inner.KeptSteps.{sender_of}
use Rattle.room_disk.proofs.KeptEvents.{answers-by, event-cut, event-kept, event-stopped, event-unmade}
use Rattle.room_disk.proofs.keeping.keep_event.Goals as goal

pub returns-in_default-clause-stopped : goal.returns-in_default-clause-stopped
returns-in_default-clause-stopped g c =
    event-unmade c.args.room.now.state c.plan.new.self.state c.args.event.now c.plan.ensures.state c.args.messages.now
    (g.L.Links.seen c.args.links.now) (g.L.Links.seen c.args.links.now) refl (g.J.Sink.seen c.args.journal.now)
    (g.J.Sink.seen c.args.journal.now) refl c.requires.synced

pub returns-in_err-kept-clause-stopped : goal.returns-in_err-kept-clause-stopped
returns-in_err-kept-clause-stopped g c =
    let p = err_from_is_err_and c.from_residual.result c.from_residual.ensures.1 in
    rw (p.1, p.2) (event-stopped c.args.room.now.state c.plan.new.self.state c.args.event.now c.plan.ensures.state
    c.args.messages.now
    (g.L.Links.seen c.args.links.now) (g.L.Links.seen c.args.links.now) refl (g.J.Sink.seen c.args.journal.now)
    (g.J.Sink.seen c.keep_record.new.journal)
    c.in-Ok.plan c.in-Ok.ensures.planned c.requires.synced c.keep_record.ensures.safe _ c.in_err-kept.ensures.stopped)

pub returns-in-Ok-tell-clause-whole : goal.returns-in-Ok-tell-clause-whole
returns-in-Ok-tell-clause-whole g c =
    let old = c.args.room.now.state in
    let plan = c.in-Ok.plan in
    let facts = c.in_ok-kept.ensures in
    let changed : IsChanged old plan.change c.put-told.new.self.state =
    subst (λ (room : RoomState). IsChanged room plan.change c.put-told.new.self.state) c.plan.ensures.state
    c.put-told.ensures.changed in
    let answered = answers-by (texts_told c.in_ok-kept.kept) c.sender_of.result (sender_of c.args.event.now)
    c.args.messages.now (record_in plan) facts.told c.sender_of.ensures in
    event-kept old c.put-told.new.self.state c.args.event.now plan c.in-Ok.ensures.planned changed c.args.messages.now
    (g.L.Links.seen c.args.links.now) (g.L.Links.seen c.tell.new.links) (g.J.Sink.seen c.args.journal.now)
    (g.J.Sink.seen c.keep_record.new.journal)
    (texts_told c.in_ok-kept.kept) answered facts.took facts.synced
    c.close_all.new.self.state c.keep_record.new.messages c.in-Ok-tell.gone.items c.deref.result.now
    (subst (λ told. HaveTried (g.L.Links.seen c.args.links.now) (g.L.Links.seen c.tell.new.links) (texts_told told
    ++ texts_told c.in_ok-kept.kept) c.in-Ok-tell.gone.items []) c.put-told.ensures.told c.in-Ok-tell.ensures.tried)
    c.deref.ensures.value c.close_all.ensures facts.count

pub returns-clause-stopped : goal.returns-clause-stopped
returns-clause-stopped g c =
    let old = c.args.room.now.state in
    let plan = c.in-Ok.plan in
    let facts = c.in_ok-kept.ensures in
    let changed : IsChanged old plan.change c.put-told.new.self.state =
    subst (λ (room : RoomState). IsChanged room plan.change c.put-told.new.self.state) c.plan.ensures.state
    c.put-told.ensures.changed in
    let answered = answers-by (texts_told c.in_ok-kept.kept) c.sender_of.result (sender_of c.args.event.now)
    c.args.messages.now (record_in plan) facts.told c.sender_of.ensures in
    let cut = c.in-Err.ensures.cut in
    event-cut old c.put-told.new.self.state c.args.event.now plan c.in-Ok.ensures.planned changed c.args.messages.now
    (g.L.Links.seen c.args.links.now) (g.L.Links.seen c.tell.new.links) (g.J.Sink.seen c.args.journal.now)
    (g.J.Sink.seen c.keep_record.new.journal)
    (texts_told c.in_ok-kept.kept) answered facts.took facts.synced cut.0 cut.1
    (subst (λ told. HaveTried (g.L.Links.seen c.args.links.now) (g.L.Links.seen c.tell.new.links) (texts_told told
    ++ texts_told c.in_ok-kept.kept) cut.0 cut.1) c.put-told.ensures.told cut.2)
