use Rattle.std.proofs.Common.{take}
use Rattle.effects.specs.inner.Prepared.{HasKeys, elements_among}
use Rattle.effects.proofs.placing.keys_among.Given as goal

abbrev pub invariant-loop-e : goal.invariant-loop-e
invariant-loop-e l = HasKeys l.keys (elements_among l.ids (take l.e-index l.elements))
