use Rattle.std.proofs.Common.{◌≡◌, take}
use Rattle.view.specs.Shown.{live_elements}
use Rattle.view.specs.inner.Spots.{elements_of, AreSpotsIn}
use Rattle.view.proofs.view.live_of.Given as goal

abbrev pub invariant-loop-i : goal.invariant-loop-i
invariant-loop-i l = record {
  exact : elements_of l.live.items ≡ live_elements (take l.i l.store.elements);
  stored : AreSpotsIn l.store.elements l.live.items;
}
