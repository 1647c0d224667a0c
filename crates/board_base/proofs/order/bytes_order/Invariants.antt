use Rattle.std.proofs.Common.{◌≡◌, ◌-◌, ◌≤◌, length, drop}
use Rattle.std.specs.Prelude.{min}
use Rattle.std.specs.Ordering.{nat_cmp}
use Rattle.std.specs.Cmp.Lexicographic.{slice_cmp}
use Rattle.board_base.proofs.order.bytes_order.Given as goal

abbrev pub invariant-loop-i : goal.invariant-loop-i
invariant-loop-i l = record {
  counted : l.i-end ≡ min (length l.a) (length l.b);
  within : l.i ≤ l.i-end;
  rest : slice_cmp nat_cmp (drop l.i l.a) (drop l.i l.b) ≡ slice_cmp nat_cmp l.a l.b;
}

abbrev pub decreases-loop-i : goal.decreases-loop-i
decreases-loop-i l = l.i-end - l.i
