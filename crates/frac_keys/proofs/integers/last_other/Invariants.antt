use Rattle.std.proofs.Common.{drop, eqb, IsTrue}
use Rattle.std.specs.List.{list_all}
use Rattle.frac_keys.proofs.integers.last_other.Given as goal

abbrev pub invariant-loop-at : goal.invariant-loop-at
invariant-loop-at l = IsTrue (list_all (λ digit. eqb digit l.full) (drop l.at l.integer))
