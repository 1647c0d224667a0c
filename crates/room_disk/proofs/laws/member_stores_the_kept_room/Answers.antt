use Rattle.room_core.specs.Serving.{at_start, serving_at, steps_of}
use Rattle.room_disk.proofs.laws.member_stores_the_kept_room.Goals as goal

pub returns : goal.returns
returns c = λ limits room rounds link fresh ordered are joined.
    c.member_stores_the_room.ensures link room (serving_at (at_start room) rounds).room (steps_of rounds) fresh ordered
    (c.kept_rounds_are_steps.ensures limits (at_start room) 0 rounds are) joined
