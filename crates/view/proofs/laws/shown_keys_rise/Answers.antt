use Rattle.view.proofs.ShownLaws.{shown-keys}
use Rattle.view.proofs.laws.shown_keys_rise.Goals as goal

pub returns : goal.returns
returns c = shown-keys
