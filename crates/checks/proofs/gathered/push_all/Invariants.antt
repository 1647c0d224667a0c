-- the elements so far stand there
use Rattle.std.proofs.Common.{◌≡◌, ◌++◌}
use Rattle.checks.proofs.gathered.push_all.Given as goal

abbrev pub invariant-loop-e : goal.invariant-loop-e
invariant-loop-e l = record {
  made : l.updates.items ≡ l.initial.updates.items ++ l.yielded;
  parts : l.fn.elements ≡ l.yielded ++ l.e-iterator.rest.items;
}
