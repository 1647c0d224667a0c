use Rattle.std.proofs.Common.{◌≡◌, ◌+◌, ◌≤◌, ◌++◌, length, take, drop, vec_capacity, vec_len}
use Rattle.elem_store.specs.inner.Indexed.{woven, AreGaps}
use Rattle.elem_store.proofs.indexed.settle.Given as goal

-- the late places that are left come among the settled ones below the end; those behind their room stand as they will
abbrev pub invariant-loop-last : goal.invariant-loop-last
invariant-loop-last l = record {
  gaps : AreGaps l.end l.late.items;
  room : l.end + length l.late.items ≤ length l.settled.items;
  places : woven (take l.end l.settled.items) l.late.items ++ drop (l.end + length l.late.items) l.settled.items
      ≡ woven l.fn.settled.items l.fn.late.items;
  count : vec_len l.settled ≡ vec_len l.fn.settled + vec_len l.fn.late;
  kept : vec_capacity l.fn.settled ≤ vec_capacity l.settled;
}

abbrev pub decreases-loop-last : goal.decreases-loop-last
decreases-loop-last l = goal.left-loop-last l
