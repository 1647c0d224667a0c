-- One event: how it ends the room, or that it was a round.
use Rattle.std.proofs.Common.{◌≡◌, ◌+◌, ◌≤◌, Some, refl, sym, ap, ◌∙◌, arith}
use Rattle.board_ends.specs.Events.{opening_of}
use Rattle.room_core.specs.Serving.{end_by, end_of, serving_of}
use Rattle.room_core.specs.inner.Serving.{IsServedRound}
use Rattle.room_core.proofs.Tries.{tells-nothing, tells-event}
use Rattle.room_core.proofs.Served.{one_opening, below_limits, ended-memory, ended-full, ended-cut, ended-here, served-then, served-round, err_part, ok_part}
use Rattle.room_core.proofs.serving.serve_round.Goals as goal
use Rattle.room_core.proofs.serving.serve_round.Goals.{else-opens_link-via-then-opens_link+else-tally-limits, else-opens_link-via-else-opens_link}

pub returns-in-Err-Memory-clause-ended : goal.returns-in-Err-Memory-clause-ended
returns-in-Err-Memory-clause-ended g c =
    let facts = c.in-Err-Memory.ensures in
    ended-memory c.args.limits.now (serving_of c.args.room.now.state c.args.tally.now) c.requires.running _ _
    (tells-nothing _ _ facts.err facts.sent facts.lost)

pub returns-then-tally-limits-clause-ended : goal.returns-then-tally-limits-clause-ended
returns-then-tally-limits-clause-ended g c =
    let facts = c.in-Ok.ensures in
    let opens = c.opens_link.ensures.opens c.if-opens_link.true in
    ended-full c.args.limits.now (serving_of c.args.room.now.state c.args.tally.now) c.requires.running opens.0
    c.in-Ok.event _ _ opens.1
    (omega (arith, c.requires.within, c.if-tally-limits.true))
    (tells-event _ _ c.in-Ok.event facts.ok facts.sent facts.lost)

pub returns-then-is_err-clause-ended : goal.returns-then-is_err-clause-ended
returns-then-is_err-clause-ended g c =
    let facts = c.in-Ok.ensures in
    ended-cut c.args.limits.now (serving_of c.args.room.now.state c.args.tally.now) c.requires.running c.in-Ok.event _ _
    _ _
    (tells-event _ _ c.in-Ok.event facts.ok facts.sent facts.lost)
    (err_part c.serve_event.result (sym c.is_err.ensures.value ∙ c.if-is_err.true) c.serve_event.ensures.cut)

pub count-requires-clause-opened : goal.count-requires-clause-opened
count-requires-clause-opened g c = elim c.else-opens_link.branch [
  | else-opens_link-via-then-opens_link+else-tally-limits w ↦ omega (
    arith,
    w.if-tally-limits.false,
    one_opening c.in-Ok.event,
  )
  | else-opens_link-via-else-opens_link w ↦ omega (
    arith,
    c.requires.within,
    c.opens_link.ensures.other w.if-opens_link.false,
  )
]

pub count-requires-clause-stepped : goal.count-requires-clause-stepped
count-requires-clause-stepped g c =
    (below_limits c.args.limits.now (serving_of c.args.room.now.state c.args.tally.now) c.requires.running).0

pub count-requires-clause-idles : goal.count-requires-clause-idles
count-requires-clause-idles g c =
    (below_limits c.args.limits.now (serving_of c.args.room.now.state c.args.tally.now) c.requires.running).1

pub returns-in-Some-clause-ended : goal.returns-in-Some-clause-ended
returns-in-Some-clause-ended g c =
    let facts = c.in-Ok.ensures in
    let within : c.args.tally.now.opened + opening_of c.in-Ok.event ≤ c.args.limits.now.links =
    elim c.else-opens_link.branch [
      | else-opens_link-via-then-opens_link+else-tally-limits w ↦ omega (
        arith,
        w.if-tally-limits.false,
        one_opening c.in-Ok.event,
      )
      | else-opens_link-via-else-opens_link w ↦ omega (
        arith,
        c.requires.within,
        c.opens_link.ensures.other w.if-opens_link.false,
      )
    ] in
    let round : IsServedRound c.args.limits.now (serving_of c.args.room.now.state c.args.tally.now)
    (serving_of c.serve_event.new.room.state c.count.new.self)
    (g.L.Links.seen c.args.links.now) (g.L.Links.seen c.serve_event.new.links) =
    served-round c.args.limits.now c.args.room.now.state c.serve_event.new.room.state c.args.tally.now c.count.new.self
    c.in-Ok.event _ _ _ within
    c.count.ensures.opened c.count.ensures.stepped c.count.ensures.idles
    (tells-event _ _ c.in-Ok.event facts.ok facts.sent facts.lost)
    (ok_part c.serve_event.result (sym c.is_err.ensures.value ∙ c.if-is_err.false) c.serve_event.ensures.whole) in
    let next = serving_of c.serve_event.new.room.state c.count.new.self in
    let by : end_of c.args.limits.now next ≡ Some c.in-Some.end =
    ap (end_by c.args.limits.now c.count.new.self.opened c.count.new.self.stepped c.count.new.self.idles)
    (sym c.joined.ensures.links) ∙ sym c.end.ensures ∙ c.in-Some.is in
    served-then c.args.limits.now _ c.requires.running next c.serve_event.new.room.state _ _ _ c.in-Some.end round
    (ended-here c.args.limits.now next _ _ c.in-Some.end by (tells-nothing _ _ refl refl refl))

pub returns-clause-on : goal.returns-clause-on
returns-clause-on g c =
    let facts = c.in-Ok.ensures in
    let within : c.args.tally.now.opened + opening_of c.in-Ok.event ≤ c.args.limits.now.links =
    elim c.else-opens_link.branch [
      | else-opens_link-via-then-opens_link+else-tally-limits w ↦ omega (
        arith,
        w.if-tally-limits.false,
        one_opening c.in-Ok.event,
      )
      | else-opens_link-via-else-opens_link w ↦ omega (
        arith,
        c.requires.within,
        c.opens_link.ensures.other w.if-opens_link.false,
      )
    ] in
    let round : IsServedRound c.args.limits.now (serving_of c.args.room.now.state c.args.tally.now)
    (serving_of c.serve_event.new.room.state c.count.new.self)
    (g.L.Links.seen c.args.links.now) (g.L.Links.seen c.serve_event.new.links) =
    served-round c.args.limits.now c.args.room.now.state c.serve_event.new.room.state c.args.tally.now c.count.new.self
    c.in-Ok.event _ _ _ within
    c.count.ensures.opened c.count.ensures.stepped c.count.ensures.idles
    (tells-event _ _ c.in-Ok.event facts.ok facts.sent facts.lost)
    (ok_part c.serve_event.result (sym c.is_err.ensures.value ∙ c.if-is_err.false) c.serve_event.ensures.whole) in
    round
