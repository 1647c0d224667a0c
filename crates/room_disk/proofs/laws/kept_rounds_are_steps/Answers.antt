use Rattle.room_disk.proofs.KeptRounds.{kept-steps}
use Rattle.room_disk.proofs.laws.kept_rounds_are_steps.Goals as goal

pub returns : goal.returns
returns c = kept-steps
