-- the kept ones of the elements so far are known
use Rattle.std.proofs.Common.{take}
use Rattle.checks.specs.inner.Kept.{AreKept}
use Rattle.checks.proofs.kept.kept_of.Given as goal

abbrev pub invariant-loop-n : goal.invariant-loop-n
invariant-loop-n l = AreKept l.store.elements l.kept (take l.n l.updates)
