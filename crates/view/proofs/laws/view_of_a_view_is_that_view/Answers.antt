use Rattle.view.proofs.ShownLaws.{shown-again}
use Rattle.view.proofs.laws.view_of_a_view_is_that_view.Goals as goal

pub returns : goal.returns
returns c = shown-again
