use Rattle.std.proofs.Common.{◌≡◌, take}
use Rattle.kept_view.proofs.following.stored_elements.Given as goal

abbrev pub invariant-loop-i : goal.invariant-loop-i
invariant-loop-i l = l.copies.items ≡ take l.i l.store.elements
