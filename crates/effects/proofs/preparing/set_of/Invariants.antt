use Rattle.std.proofs.Common.{take}
use Rattle.effects.specs.inner.Prepared.{HasIds}
use Rattle.effects.proofs.preparing.set_of.Given as goal

abbrev pub invariant-loop-id : goal.invariant-loop-id
invariant-loop-id l = HasIds l.set (take l.id-index l.ids)
