use Rattle.std.proofs.Common.{◌+◌, ◌-◌, ◌≤◌}
use Rattle.elem_store.specs.inner.Indexed.{woven}
use Rattle.elem_store.specs.inner.Places.{IsBetween}
use Rattle.elem_store.proofs.places.find_among.Given as goal

-- the id is between the bounds, which are within the stretch
abbrev pub invariant-loop-low : goal.invariant-loop-low
invariant-loop-low l = record {
  between : IsBetween l.elements.items (woven l.settled.items l.late.items) l.id (l.low + l.before) (l.high + l.before);
  within : (l.from ≤ l.low) × (l.high ≤ l.to);
}

abbrev pub decreases-loop-low : goal.decreases-loop-low
decreases-loop-low l = l.high - l.low
