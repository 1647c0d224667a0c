use Rattle.view.proofs.StepLaws.{settled-keys}
use Rattle.view.proofs.steps.keys_play_no_part.Goals as goal

pub returns : goal.returns
returns c = settled-keys
