use Rattle.std.proofs.Common.{◌-◌, ◌≤◌, length}
use Rattle.json_reader.specs.inner.Items.{AreItems}
use Rattle.json_reader.specs.inner.Writing.{stretch}
use Rattle.json_reader.proofs.items.items_end.Given as goal

abbrev pub invariant-loop-end : goal.invariant-loop-end
invariant-loop-end l = record {
  within : (l.at ≤ l.next) × (l.next ≤ length l.bytes);
  items : AreItems l.fn.opened (stretch l.bytes l.at l.next) l.opened;
}

abbrev pub decreases-loop-end : goal.decreases-loop-end
decreases-loop-end l = length l.bytes - l.next
