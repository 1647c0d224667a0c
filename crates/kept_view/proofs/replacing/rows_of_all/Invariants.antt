use Rattle.std.proofs.Common.{take}
use Rattle.kept_view.specs.inner.Replacing.{AreRowsOfAll}
use Rattle.kept_view.proofs.replacing.rows_of_all.Given as goal

abbrev pub invariant-loop-e : goal.invariant-loop-e
invariant-loop-e l = AreRowsOfAll (take l.e-index l.elements.items) l.rows.items
