-- No earlier part is seen.
use Rattle.std.proofs.Common.{take}
use Rattle.history.specs.Steps.{IsSeen}
use Rattle.history.proofs.step.is_seen.Given as goal

abbrev pub invariant-loop-part : goal.invariant-loop-part
invariant-loop-part l = ¬ (IsSeen l.store.elements (take l.part-index l.part-items))
