use Rattle.std.proofs.Common.{take_all, ap, ◌∙◌, arith}
use Rattle.effects.specs.inner.Prepared.{elements_among}
use Rattle.effects.proofs.copying.copied_among.Goals as goal

pub returns : goal.returns
returns c =
    c.from_vec.ensures ∙ c.loop-e.invariant
    ∙ ap (elements_among c.args.ids.now) (take_all c.loop-e.e-index c.args.elements.now (omega arith))
