use Rattle.std.proofs.Common.{option_copied}
use Rattle.index_repair.proofs.SoFar.{IsSoFar}
use Rattle.index_repair.proofs.repair_part.Given as goal

abbrev pub invariant-loop-key : goal.invariant-loop-key
invariant-loop-key l = IsSoFar (option_copied l.above) (option_copied l.low) l.run l.key-items l.key-index l.new.items
