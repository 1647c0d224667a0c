use Rattle.std.proofs.Common.{◌≡◌, ◌++◌, take, drop}
use Rattle.frac_keys.specs.Between.{midpoint}
use Rattle.frac_keys.proofs.midpoint.shared_len.Given as goal

abbrev pub invariant-loop-i : goal.invariant-loop-i
invariant-loop-i l = midpoint l.a l.b ≡ take l.i l.b ++ midpoint (drop l.i l.a) (drop l.i l.b)
