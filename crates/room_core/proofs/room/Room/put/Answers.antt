-- The change is put in place, and so the step that was planned.
use Rattle.room_core.specs.Planned.{IsChanged}
use Rattle.room_core.specs.Rooms.{RoomState}
use Rattle.room_core.proofs.Steps.{put-stepped}
use Rattle.room_core.proofs.room.Room.put.Goals as goal

pub returns-clause-changed : goal.returns-clause-changed
returns-clause-changed c =
    rw (← c.self.view_is) (record { elements = c.put_change.ensures.elements; joined = c.put_change.ensures.joined })

pub returns-clause-stepped : goal.returns-clause-stepped
returns-clause-stepped c event planned =
    let new : RoomState =
    record { elements = c.put_change.new.store.elements; joined = c.put_change.new.joined.items } in
    let changed : IsChanged c.args.self.now.state c.args.plan.change new =
    rw (← c.self.view_is) (record { elements = c.put_change.ensures.elements; joined = c.put_change.ensures.joined }) in
    put-stepped c.args.self.now.state new event c.args.plan planned changed
