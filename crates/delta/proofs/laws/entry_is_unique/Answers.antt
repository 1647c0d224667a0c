use Rattle.delta.proofs.PairLaws.{entry-once}
use Rattle.delta.proofs.laws.entry_is_unique.Goals as goal

pub returns : goal.returns
returns c = entry-once
