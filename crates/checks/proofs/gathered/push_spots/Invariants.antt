-- the spots of the verdicts so far stand there
use Rattle.std.proofs.Common.{◌≡◌, ◌++◌}
use Rattle.std.specs.List.{flat_map}
use Rattle.checks.specs.Lines.{spot_in}
use Rattle.checks.proofs.gathered.push_spots.Given as goal

abbrev pub invariant-loop-verdict : goal.invariant-loop-verdict
invariant-loop-verdict l = record {
  made : l.spots.items ≡ l.initial.spots.items ++ flat_map (spot_in l.number) l.yielded;
  parts : l.fn.verdicts ≡ l.yielded ++ l.verdict-iterator.rest.items;
}
