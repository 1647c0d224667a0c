use Rattle.view.proofs.Kept.{shown-elements}
use Rattle.view.proofs.laws.shown_elements_are_elements.Goals as goal

pub returns : goal.returns
returns c = shown-elements
