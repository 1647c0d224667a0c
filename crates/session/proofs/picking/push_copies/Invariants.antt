-- The first elements are copied.
use Rattle.std.proofs.Common.{◌≡◌, ◌++◌, take}
use Rattle.session.proofs.picking.push_copies.Given as goal

abbrev pub invariant-loop-e : goal.invariant-loop-e
invariant-loop-e l = l.copies.items ≡ l.initial.copies.items ++ take l.e-index l.elements
