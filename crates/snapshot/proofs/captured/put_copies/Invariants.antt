-- The first ones are put.
use Rattle.std.proofs.Common.{◌≡◌, take}
use Rattle.undo_model.specs.Carrying.{with_all_put}
use Rattle.snapshot.proofs.captured.put_copies.Given as goal

abbrev pub invariant-loop-e : goal.invariant-loop-e
invariant-loop-e l = l.elements.items ≡ with_all_put (take l.e-index l.news) l.initial.elements.items
