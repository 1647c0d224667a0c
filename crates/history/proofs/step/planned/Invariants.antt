-- The first parts have been taken back.
use Rattle.std.proofs.Common.{take}
use Rattle.history.specs.Steps.{IsStep}
use Rattle.history.proofs.step.planned.Given as goal

abbrev pub invariant-loop-part : goal.invariant-loop-part
invariant-loop-part l =
    IsStep (take l.part-index l.part-items) l.store.elements l.stamp.time l.stamp.nonce l.given.items l.made.items
