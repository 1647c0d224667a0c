-- No entry from the count on is seen.
use Rattle.std.proofs.Common.{◌≤◌, length, drop}
use Rattle.history.specs.Stacks.{AreUnseen}
use Rattle.history.proofs.step.topmost_seen.Given as goal

abbrev pub invariant-loop-count : goal.invariant-loop-count
invariant-loop-count l = record {
  within : l.count ≤ length l.stack.items;
  unseen : AreUnseen l.store.elements (drop l.count l.stack.items);
}

abbrev pub decreases-loop-count : goal.decreases-loop-count
decreases-loop-count l = l.count
