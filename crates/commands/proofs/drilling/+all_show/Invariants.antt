use Rattle.std.proofs.Common.{length}
use Rattle.commands.proofs.drilling.+all_show.Given as goal

abbrev pub decreases-all_show : goal.decreases-all_show
decreases-all_show l = length l.replicas.now
