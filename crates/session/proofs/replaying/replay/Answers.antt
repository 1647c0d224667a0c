use Rattle.std.proofs.Common.{◌+◌, ◌<◌, ◌≤◌, length, get_or, sym, ap, ◌∙◌, subst, arith}
use Rattle.std.proofs.lemmas.Result.{IfOk-weaker}
use Rattle.session_text.specs.Facts.{IsAmong, IsEventWithinLimits}
use Rattle.session.specs.Reports.{IsReportOf}
use Rattle.session.specs.inner.Standing.{WorldStandsFor}
use Rattle.session.specs.Worlds.{World, last_world, world_after}
use Rattle.session.proofs.WorldLaws.{each-event, world-step, world-last}
use Rattle.session.proofs.replaying.replay.Goals as goal

pub step-requires-clause-among : goal.step-requires-clause-among
step-requires-clause-among c =
    let session = c.args.session.now in
    let inside : c.loop-event.event-index < length session.events =
    omega (arith, ap length c.as_slice-event-items.ensures) in
    let here = c.event-item.is ∙ ap (λ es. get_or es c.loop-event.event-index c.event-item.result)
    c.as_slice-event-items.ensures in
    subst (λ n. IsAmong n c.event-item.result) (sym c.loop-event.invariant.seats)
    (each-event (IsAmong session.replicas) session.events c.loop-event.event-index c.event-item.result inside here
    c.requires.places)

pub step-requires-clause-within : goal.step-requires-clause-within
step-requires-clause-within c =
    let session = c.args.session.now in
    let inside : c.loop-event.event-index < length session.events =
    omega (arith, ap length c.as_slice-event-items.ensures) in
    let here = c.event-item.is ∙ ap (λ es. get_or es c.loop-event.event-index c.event-item.result)
    c.as_slice-event-items.ensures in
    each-event IsEventWithinLimits session.events c.loop-event.event-index c.event-item.result inside here
    c.requires.limits

pub loop-event-preserved : goal.loop-event-preserved
loop-event-preserved c =
    let session = c.args.session.now in
    let i = c.loop-event.event-index in
    let inside : c.loop-event.event-index < length session.events =
    omega (arith, ap length c.as_slice-event-items.ensures) in
    let here = c.event-item.is ∙ ap (λ es. get_or es c.loop-event.event-index c.event-item.result)
    c.as_slice-event-items.ensures in
    record {
      stands = subst (WorldStandsFor c.step.new.self) (world-step session i c.event-item.result inside here)
          (c.in_ok-step.ensures.world (world_after session i) c.loop-event.invariant.stands);
      seats = c.in_ok-step.ensures.seats ∙ c.loop-event.invariant.seats;
      events = c.in_ok-step.ensures.events ∙ ap (λ n. n + 1) c.loop-event.invariant.events;
    }

pub returns : goal.returns
returns c =
    let session = c.args.session.now in
    let all : length session.events ≤ c.loop-event.event-index =
    omega (arith, ap length c.as_slice-event-items.ensures) in
    let stands = subst (WorldStandsFor c.loop-event.world) (world-last session c.loop-event.event-index all)
    c.loop-event.invariant.stands in
    IfOk-weaker c.report_of.result (λ report. (w : World) → WorldStandsFor c.loop-event.world w
    → IsReportOf session w report) (IsReportOf session (last_world session))
    (λ report told. told (last_world session) stands) c.report_of.ensures
