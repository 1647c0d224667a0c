-- The first record is safe before anybody may join; what comes then is an account, whatever ends it.
use Rattle.std.proofs.Common.{inl, inr, refl, ◌∙◌}
use Rattle.room_core.specs.Serving.{at_start}
use Rattle.room_core.proofs.CallerLemmas.{tells-nothing}
use Rattle.room_disk.specs.declared.keep_end.KeepEnd.TheVariants.{LinkFault, Memory}
use Rattle.room_disk.proofs.KeptAccounts.{kept-fault, kept-memory}
use Rattle.room_disk.proofs.KeptRooms.{first-runs, opening-of, room-kept, room-unopened}
use Rattle.room_disk.proofs.keeping.keep_room.Goals as goal

pub returns-in-Err-clause-kept : goal.returns-in-Err-clause-kept
returns-in-Err-clause-kept g c =
    let room = c.args.room.now.state in
    let opening = opening-of c.args.head.now room.elements c.requires.head c.requires.whole c.requires.keys
    c.keep_opening.ensures.ordered in
    inl (room-unopened c.first_records_are_recovered.ensures c.args.head.now room opening
    (g.L.Links.seen c.args.links.now) (g.J.Sink.seen c.args.journal.now) (g.J.Sink.seen c.keep_opening.new.journal)
    c.in-Err.end c.in-Err.ensures.cause c.in-Err.ensures.part)

pub returns-in-Ok-clause-kept : goal.returns-in-Ok-clause-kept
returns-in-Ok-clause-kept g c =
    let room = c.args.room.now.state in
    let opening = opening-of c.args.head.now room.elements c.requires.head c.requires.whole c.requires.keys
    c.keep_opening.ensures.ordered in
    let before = g.L.Links.seen c.args.links.now in
    let listening = g.L.Links.seen c.listen.new.self in
    let heard = c.in-Ok.ensures in
    inr (room-kept c.first_records_are_recovered.ensures c.args.head.now room opening c.read_messages_are_whole.ensures
    c.args.limits.now c.args.port c.keep_on.new.room.state
    before listening (g.L.Links.seen c.keep_on.new.links) (g.J.Sink.seen c.args.journal.now)
    (g.J.Sink.seen c.keep_opening.new.journal) (g.J.Sink.seen c.keep_on.new.journal) c.keep_on.result
    c.in_default.ensures.took (tells-nothing before listening heard.given heard.sent heard.lost)
    (record { once = c.keep_on.ensures.listens ∙ heard.listens; on_port = inl (c.keep_on.ensures.port ∙ heard.ok) })
    c.keep_on.ensures.kept)

pub returns-in-Err-Failed-clause-kept : goal.returns-in-Err-Failed-clause-kept
returns-in-Err-Failed-clause-kept g c =
    let room = c.args.room.now.state in
    let opening = opening-of c.args.head.now room.elements c.requires.head c.requires.whole c.requires.keys
    c.keep_opening.ensures.ordered in
    let before = g.L.Links.seen c.args.links.now in
    let listening = g.L.Links.seen c.listen.new.self in
    let journal = g.J.Sink.seen c.keep_opening.new.journal in
    let heard = c.in-Err-Failed.ensures in
    let told = tells-nothing before listening heard.given heard.sent heard.lost in
    inr (room-kept c.first_records_are_recovered.ensures c.args.head.now room opening c.read_messages_are_whole.ensures
    c.args.limits.now c.args.port room
    before listening listening (g.J.Sink.seen c.args.journal.now) journal journal LinkFault
    c.in_default.ensures.took told (record { once = heard.listens; on_port = inr (inl refl, heard.err, told) })
    (kept-fault c.args.limits.now (at_start room) (first-runs c.args.limits.now room c.requires.events c.requires.idle)
    0 listening listening journal journal
    (tells-nothing listening listening refl refl refl) refl c.in_default.ensures.synced))

pub returns-in-Err-Memory-clause-kept : goal.returns-in-Err-Memory-clause-kept
returns-in-Err-Memory-clause-kept g c =
    let room = c.args.room.now.state in
    let opening = opening-of c.args.head.now room.elements c.requires.head c.requires.whole c.requires.keys
    c.keep_opening.ensures.ordered in
    let before = g.L.Links.seen c.args.links.now in
    let listening = g.L.Links.seen c.listen.new.self in
    let journal = g.J.Sink.seen c.keep_opening.new.journal in
    let heard = c.in-Err-Memory.ensures in
    let told = tells-nothing before listening heard.given heard.sent heard.lost in
    inr (room-kept c.first_records_are_recovered.ensures c.args.head.now room opening c.read_messages_are_whole.ensures
    c.args.limits.now c.args.port room
    before listening listening (g.J.Sink.seen c.args.journal.now) journal journal Memory
    c.in_default.ensures.took told (record { once = heard.listens; on_port = inr (inr refl, heard.err, told) })
    (kept-memory c.args.limits.now (at_start room) (first-runs c.args.limits.now room c.requires.events c.requires.idle)
    0 listening listening journal journal
    (tells-nothing listening listening refl refl refl) refl c.in_default.ensures.synced))
