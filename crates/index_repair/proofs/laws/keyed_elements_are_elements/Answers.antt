use Rattle.index_repair.proofs.KeyedLaws.{keyed-elements}
use Rattle.index_repair.proofs.laws.keyed_elements_are_elements.Goals as goal

pub returns : goal.returns
returns c = keyed-elements
