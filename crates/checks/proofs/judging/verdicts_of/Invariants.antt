-- the values so far are read
use Rattle.std.proofs.Common.{take}
use Rattle.checks.specs.Reading.{AreVerdicts}
use Rattle.checks.proofs.judging.verdicts_of.Given as goal

abbrev pub invariant-loop-place : goal.invariant-loop-place
invariant-loop-place l = AreVerdicts 0 (take l.place l.values) l.verdicts.items
