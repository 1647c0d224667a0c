use Rattle.delta.proofs.PairLaws.{entry-exchanged}
use Rattle.delta.proofs.laws.inverse_stands_for_exchanged.Goals as goal

pub returns : goal.returns
returns c = entry-exchanged
