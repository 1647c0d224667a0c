use Rattle.delta.proofs.PairLaws.{entry-unstamped}
use Rattle.delta.proofs.laws.entry_leaves_stamps_out.Goals as goal

pub returns : goal.returns
returns c = entry-unstamped
