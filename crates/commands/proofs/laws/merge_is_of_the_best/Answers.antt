use Rattle.commands.proofs.Unique.{merge-of-best}
use Rattle.commands.proofs.laws.merge_is_of_the_best.Goals as goal

pub returns : goal.returns
returns c = merge-of-best
