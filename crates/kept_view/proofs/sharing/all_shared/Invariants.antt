use Rattle.std.proofs.Common.{◌≡◌, ◌++◌}
use Rattle.kept_view.proofs.sharing.all_shared.Given as goal

-- those so far are shared, and the others are left
abbrev pub invariant-loop-e : goal.invariant-loop-e
invariant-loop-e l = record {
  same : l.shared.items ≡ l.yielded;
  parts : l.fn.elements.items ≡ l.yielded ++ l.e-iterator.rest.items;
}
