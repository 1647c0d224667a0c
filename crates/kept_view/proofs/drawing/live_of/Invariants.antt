use Rattle.std.proofs.Common.{◌≡◌, take}
use Rattle.view.specs.Shown.{live_elements}
use Rattle.kept_view.proofs.drawing.live_of.Given as goal

abbrev pub invariant-loop-i : goal.invariant-loop-i
invariant-loop-i l = l.live.items ≡ live_elements (take l.i l.store.elements)
