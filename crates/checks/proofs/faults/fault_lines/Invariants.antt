-- the lines on the texts so far
use Rattle.std.proofs.Common.{◌≡◌, take}
use Rattle.std.specs.List.{flat_map}
use Rattle.checks.specs.Lines.{judged_lines}
use Rattle.checks.proofs.faults.fault_lines.Given as goal

abbrev pub invariant-loop-text : goal.invariant-loop-text
invariant-loop-text l = l.out.items ≡ flat_map judged_lines (take l.text-index l.texts)
