use Rattle.std.proofs.Common.{◌≡◌, ◌++◌, take}
use Rattle.kept_view.proofs.following.push_copies.Given as goal

abbrev pub invariant-loop-e : goal.invariant-loop-e
invariant-loop-e l = l.list.items ≡ l.initial.list.items ++ take l.e-index l.elements
