use Rattle.std.proofs.Common.{◌≡◌, take}
use Rattle.kept_view.proofs.sharing.shared_again.Given as goal

abbrev pub invariant-loop-e : goal.invariant-loop-e
invariant-loop-e l = l.again.items ≡ take l.e-index l.elements.items
