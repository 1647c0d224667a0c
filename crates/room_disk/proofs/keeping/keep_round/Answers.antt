-- One event: how it ends the room, or that it was kept and served whole.
use Rattle.std.proofs.Common.{◌≡◌, ◌+◌, ◌≤◌, Some, refl, sym, ap, ◌∙◌, subst, arith}
use Rattle.std.proofs.lemmas.Result.{err_from_is_err_and}
use Rattle.board_ends.specs.Events.{opening_of}
use Rattle.room_core.specs.Serving.{end_by, end_of, serving_of}
use Rattle.room_core.proofs.CallerLemmas.{one_opening, tells-event, tells-nothing}
use Rattle.room_disk.specs.inner.KeptSteps.{IsKeptOn, IsKeptStep}
use Rattle.room_disk.specs.declared.keep_end.KeepEnd.{KeepEnd}
use Rattle.room_disk.proofs.KeptAccounts.{kept-fault, kept-full, kept-here, kept-memory, kept-step, kept-stopped, kept-then}
use Rattle.room_disk.proofs.keeping.keep_round.Goals as goal
use Rattle.room_disk.proofs.keeping.keep_round.Goals.{else-opens_link-via-then-opens_link+else-tally-limits, else-opens_link-via-else-opens_link}

pub returns-in-Err-Failed-clause-ended : goal.returns-in-Err-Failed-clause-ended
returns-in-Err-Failed-clause-ended g c =
    let facts = c.in-Err-Failed.ensures in
    let journal = g.J.Sink.seen c.args.journal.now in
    kept-fault c.args.limits.now (serving_of c.args.room.now.state c.args.tally.now) c.requires.running
    c.args.messages.now (g.L.Links.seen c.args.links.now) (g.L.Links.seen c.next.new.self) journal journal
    (tells-nothing (g.L.Links.seen c.args.links.now) (g.L.Links.seen c.next.new.self) facts.err facts.sent facts.lost)
    refl c.requires.synced

pub returns-in-Err-Memory-clause-ended : goal.returns-in-Err-Memory-clause-ended
returns-in-Err-Memory-clause-ended g c =
    let facts = c.in-Err-Memory.ensures in
    let journal = g.J.Sink.seen c.args.journal.now in
    kept-memory c.args.limits.now (serving_of c.args.room.now.state c.args.tally.now) c.requires.running
    c.args.messages.now (g.L.Links.seen c.args.links.now) (g.L.Links.seen c.next.new.self) journal journal
    (tells-nothing (g.L.Links.seen c.args.links.now) (g.L.Links.seen c.next.new.self) facts.err facts.sent facts.lost)
    refl c.requires.synced

pub returns-then-tally-limits-clause-ended : goal.returns-then-tally-limits-clause-ended
returns-then-tally-limits-clause-ended g c =
    let facts = c.in-Ok.ensures in
    let journal = g.J.Sink.seen c.args.journal.now in
    let opens = c.opens_link.ensures.opens c.if-opens_link.true in
    kept-full c.args.limits.now (serving_of c.args.room.now.state c.args.tally.now) c.requires.running
    c.args.messages.now (g.L.Links.seen c.args.links.now) (g.L.Links.seen c.next.new.self) journal journal
    opens.0 c.in-Ok.event opens.1 (omega (arith, c.requires.within, c.if-tally-limits.true))
    (tells-event (g.L.Links.seen c.args.links.now) (g.L.Links.seen c.next.new.self) c.in-Ok.event facts.ok facts.sent
    facts.lost) refl c.requires.synced

pub returns-in_err-keep_event-clause-ended : goal.returns-in_err-keep_event-clause-ended
returns-in_err-keep_event-clause-ended g c =
    let facts = c.in-Ok.ensures in
    let p = err_from_is_err_and c.from_residual.result c.from_residual.ensures.1 in
    rw (p.1, p.2) (kept-stopped c.args.limits.now (serving_of c.args.room.now.state c.args.tally.now) c.requires.running
    c.args.messages.now
    (g.L.Links.seen c.args.links.now) (g.L.Links.seen c.keep_event.new.links) (g.J.Sink.seen c.args.journal.now)
    (g.J.Sink.seen c.keep_event.new.journal)
    c.in-Ok.event c.keep_event.new.room.state (g.L.Links.seen c.next.new.self) _
    (tells-event (g.L.Links.seen c.args.links.now) (g.L.Links.seen c.next.new.self) c.in-Ok.event facts.ok facts.sent
    facts.lost) c.in_err-keep_event.ensures.stopped)

pub returns-in-Some-clause-ended : goal.returns-in-Some-clause-ended
returns-in-Some-clause-ended g c =
    let facts = c.in-Ok.ensures in
    let limits = c.args.limits.now in
    let room = c.args.room.now.state in
    let new = c.keep_event.new.room.state in
    let before = g.L.Links.seen c.args.links.now in
    let given = g.L.Links.seen c.next.new.self in
    let after = g.L.Links.seen c.keep_event.new.links in
    let journal = g.J.Sink.seen c.args.journal.now in
    let kept = g.J.Sink.seen c.keep_event.new.journal in
    let now = serving_of room c.args.tally.now in
    let next = serving_of new c.count.new.self in
    let within : c.args.tally.now.opened + opening_of c.in-Ok.event ≤ limits.links = elim c.else-opens_link.branch [
      | else-opens_link-via-then-opens_link+else-tally-limits w ↦ omega (
        arith,
        w.if-tally-limits.false,
        one_opening c.in-Ok.event,
      )
      | else-opens_link-via-else-opens_link w ↦ omega (
        arith,
        c.requires.within,
        c.opens_link.ensures.other w.if-opens_link.false,
      )
    ] in
    let step : IsKeptStep limits now next c.args.messages.now c.keep_event.new.messages before after journal kept =
    kept-step limits room new c.args.tally.now c.count.new.self c.args.messages.now c.keep_event.new.messages
    c.in-Ok.event before given after journal kept within
    c.count.ensures.opened c.count.ensures.stepped c.count.ensures.idles
    (tells-event before given c.in-Ok.event facts.ok facts.sent facts.lost) c.in_ok-keep_event.ensures.whole in
    let by : end_of limits next ≡ Some c.in-Some.end =
    ap (end_by limits c.count.new.self.opened c.count.new.self.stepped c.count.new.self.idles)
    (sym c.joined.ensures.links) ∙ sym c.end.ensures ∙ c.in-Some.is in
    subst (λ (end : KeepEnd). IsKeptOn limits now c.args.messages.now new before after journal kept end)
    (sym c.keep_end.ensures)
    (kept-then limits now c.requires.running next c.args.messages.now c.keep_event.new.messages new before after after
    journal kept kept _ step
    (kept-here limits next c.keep_event.new.messages after kept c.in-Some.end by step.synced))
