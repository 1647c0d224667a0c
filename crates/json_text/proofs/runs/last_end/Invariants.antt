use Rattle.std.proofs.Common.{◌≡◌, ◌+◌, drop}
use Rattle.std.specs.List.{prefix_len}
use Rattle.json_text.proofs.runs.last_end.Given as goal

abbrev pub invariant-loop-i : goal.invariant-loop-i
invariant-loop-i g l =
    l.at + prefix_len g.C.Class.holds (drop l.at l.bytes) ≡ l.i + prefix_len g.C.Class.holds (drop l.i l.bytes)
