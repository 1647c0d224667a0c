-- What was read of the two is equal: what is left of them compares as they do.
use Rattle.std.proofs.Common.{◌≡◌, length}
use Rattle.frac_keys.specs.Keys.{bytes_less}
use Rattle.elem.proofs.order.is_less.Given as goal

abbrev pub invariant-loop-other : goal.invariant-loop-other
invariant-loop-other l = bytes_less l.bytes l.others ≡ bytes_less l.initial.bytes l.initial.others

abbrev pub decreases-loop-other : goal.decreases-loop-other
decreases-loop-other l = length l.others
