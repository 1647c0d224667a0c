-- The ids of the first elements are touched.
use Rattle.std.proofs.Common.{take}
use Rattle.snapshot.specs.Touched.{HasTouched}
use Rattle.snapshot.proofs.touched.touch_all.Given as goal

abbrev pub invariant-loop-e : goal.invariant-loop-e
invariant-loop-e l = HasTouched l.initial.ids.keys (take l.e-index l.list) l.ids.keys
