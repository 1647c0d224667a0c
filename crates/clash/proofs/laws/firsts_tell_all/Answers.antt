use Rattle.clash.proofs.FirstLaws.{firsts-tell}
use Rattle.clash.proofs.laws.firsts_tell_all.Goals as goal

pub returns : goal.returns
returns c = firsts-tell
