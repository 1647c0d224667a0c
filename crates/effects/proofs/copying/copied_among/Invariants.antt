use Rattle.std.proofs.Common.{◌≡◌, take}
use Rattle.effects.specs.inner.Prepared.{elements_among}
use Rattle.effects.proofs.copying.copied_among.Given as goal

abbrev pub invariant-loop-e : goal.invariant-loop-e
invariant-loop-e l = l.list.items ≡ elements_among l.ids (take l.e-index l.elements)
