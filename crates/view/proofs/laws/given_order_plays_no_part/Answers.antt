use Rattle.view.proofs.ShownLaws.{shown-permuted}
use Rattle.view.proofs.laws.given_order_plays_no_part.Goals as goal

pub returns : goal.returns
returns c = shown-permuted
