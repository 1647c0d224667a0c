use Rattle.view.proofs.ShownLaws.{shown-settled}
use Rattle.view.proofs.laws.shown_elements_are_settled.Goals as goal

pub returns : goal.returns
returns c = shown-settled
