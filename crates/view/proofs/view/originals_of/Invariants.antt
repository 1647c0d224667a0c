use Rattle.std.proofs.Common.{take}
use Rattle.view.proofs.Originals.{AreOriginals}
use Rattle.view.proofs.view.originals_of.Given as goal

abbrev pub invariant-loop-e : goal.invariant-loop-e
invariant-loop-e l = AreOriginals l.store.elements (take l.e-index l.shown) l.originals.items
