use Rattle.clash.proofs.FirstLaws.{firsts-more}
use Rattle.clash.proofs.laws.firsts_are_noted.Goals as goal

pub returns : goal.returns
returns c = firsts-more
