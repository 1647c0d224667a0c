use Rattle.std.proofs.Common.{◌≡◌, ◌+◌, ◌-◌, ◌≤◌, drop, length}
use Rattle.std.specs.List.{prefix_len}
use Rattle.json_text.proofs.runs.end_of.Given as goal

abbrev pub invariant-loop-i : goal.invariant-loop-i
invariant-loop-i g l =
    (l.at + prefix_len g.C.Class.holds (drop l.at l.bytes) ≡ l.i + prefix_len g.C.Class.holds (drop l.i l.bytes))
    × (l.at ≤ l.i) × (l.i ≤ length l.bytes)

abbrev pub decreases-loop-i : goal.decreases-loop-i
decreases-loop-i g l = length l.bytes - l.i
