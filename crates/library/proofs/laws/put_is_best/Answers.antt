use Rattle.library.proofs.BestLaws.{AreBest-put}
use Rattle.library.proofs.laws.put_is_best.Goals as goal

pub returns : goal.returns
returns c = AreBest-put
