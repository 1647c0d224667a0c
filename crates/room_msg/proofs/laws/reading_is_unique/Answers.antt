use Rattle.room_msg.proofs.Once.{answer-once}
use Rattle.room_msg.proofs.laws.reading_is_unique.Goals as goal

pub returns : goal.returns
returns c = answer-once
