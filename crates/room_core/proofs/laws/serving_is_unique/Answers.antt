use Rattle.room_core.proofs.Traces.{serving-once}
use Rattle.room_core.proofs.laws.serving_is_unique.Goals as goal

pub returns : goal.returns
returns c = serving-once
