-- the set has the files that the elements so far name
use Rattle.std.proofs.Common.{take}
use Rattle.checks.specs.inner.Named.{AreNamed}
use Rattle.checks.proofs.files.names_in.Given as goal

abbrev pub invariant-loop-e : goal.invariant-loop-e
invariant-loop-e l = AreNamed l.named (take l.e-index l.shown)
