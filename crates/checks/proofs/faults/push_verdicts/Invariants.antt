-- the lines on the values so far
use Rattle.std.proofs.Common.{◌≡◌, ◌++◌, take}
use Rattle.std.specs.List.{flat_map}
use Rattle.checks.specs.Lines.{verdict_line}
use Rattle.checks.proofs.faults.push_verdicts.Given as goal

abbrev pub invariant-loop-verdict : goal.invariant-loop-verdict
invariant-loop-verdict l = l.out.items ≡ l.initial.out.items ++ flat_map (verdict_line l.number) (take l.verdict-index l.verdicts)
