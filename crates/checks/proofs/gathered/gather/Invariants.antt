-- what the texts so far bring
use Rattle.std.proofs.Common.{◌≡◌, ◌++◌}
use Rattle.checks.specs.inner.Gathered.{AreGathered}
use Rattle.checks.proofs.gathered.gather.Given as goal

abbrev pub invariant-loop-text : goal.invariant-loop-text
invariant-loop-text l = record {
  all : AreGathered l.yielded l.all.head l.all.updates.items l.all.spots.items;
  parts : l.fn.texts ≡ l.yielded ++ l.text-iterator.rest.items;
}
