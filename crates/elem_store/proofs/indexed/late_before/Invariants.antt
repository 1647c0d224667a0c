use Rattle.std.proofs.Common.{ℕ, ◌+◌, ◌-◌, ◌<◌, ◌≤◌, length, get_or}
use Rattle.elem_store.specs.declared.indexed.Late.{Late}
use Rattle.elem_store.proofs.indexed.late_before.Given as goal

-- the late places below one bound stand before the index, and those from the other one on don't
abbrev pub invariant-loop-low : goal.invariant-loop-low
invariant-loop-low l = record {
  order : l.low ≤ l.high;
  in_range : l.high ≤ length l.late.items;
  before : (k : ℕ) (d : Late) → k < l.low → (get_or l.late.items k d).gap + k < l.i;
  after : (k : ℕ) (d : Late) → l.high ≤ k → k < length l.late.items → l.i ≤ (get_or l.late.items k d).gap + k;
}

abbrev pub decreases-loop-low : goal.decreases-loop-low
decreases-loop-low l = l.high - l.low
