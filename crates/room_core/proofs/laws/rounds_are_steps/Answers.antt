use Rattle.room_core.proofs.MemberLaws.{rounds-steps}
use Rattle.room_core.proofs.laws.rounds_are_steps.Goals as goal

pub returns : goal.returns
returns c = rounds-steps
