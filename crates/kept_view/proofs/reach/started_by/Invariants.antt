use Rattle.std.proofs.Common.{take}
use Rattle.kept_view.specs.inner.Reached.{AreStartedBy}
use Rattle.kept_view.proofs.reach.started_by.Given as goal

abbrev pub invariant-loop-e : goal.invariant-loop-e
invariant-loop-e l = AreStartedBy l.ids.list.items (take l.e-index l.elements)
