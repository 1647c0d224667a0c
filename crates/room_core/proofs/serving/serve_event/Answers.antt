-- The step that was planned is made, and its texts are tried.
use Rattle.std.proofs.Common.{sym, subst}
use Rattle.room_core.specs.Planned.{IsPlanned, texts_told}
use Rattle.room_core.specs.Rooms.{RoomState}
use Rattle.room_core.proofs.Served.{event-served}
use Rattle.room_core.proofs.serving.serve_event.Goals as goal

pub returns-clause-whole : goal.returns-clause-whole
returns-clause-whole g c =
    let plan = c.in_ok-plan.plan in
    let planned : IsPlanned c.plan.new.self.state c.args.event.now plan =
    subst (λ (room : RoomState). IsPlanned room c.args.event.now plan) (sym c.plan.ensures.state)
    c.in_ok-plan.ensures.planned in
    event-served c.args.room.now.state c.plan.new.self.state c.put-told.new.self.state c.close_all.new.self.state
    c.args.event.now (texts_told c.put-told.result) _ _
    c.plan.ensures.state (c.put-told.ensures.stepped c.args.event.now planned) _ _ c.in_ok-gone.ensures.tried
    c.deref.ensures.value c.close_all.ensures
