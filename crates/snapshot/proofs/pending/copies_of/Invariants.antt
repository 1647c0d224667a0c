-- The first elements are copied.
use Rattle.std.proofs.Common.{◌≡◌, take}
use Rattle.snapshot.proofs.pending.copies_of.Given as goal

abbrev pub invariant-loop-i : goal.invariant-loop-i
invariant-loop-i l = l.copies.items ≡ take l.i l.store.elements
