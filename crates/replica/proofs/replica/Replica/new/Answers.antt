use Rattle.std.proofs.Common.{sym, subst}
use Rattle.replica.specs.Boards.{IsTold}
use Rattle.replica.proofs.BoardLaws.{nothing-told}
use Rattle.replica.proofs.replica.Replica.new.Goals as goal

pub invariant_of-result : goal.invariant_of-result
invariant_of-result c = (subst IsTold (sym c.new.ensures.empty) nothing-told, c.new.ensures.untouched)
