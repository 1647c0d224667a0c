use Rattle.elem.proofs.OrderLaws.{beats-same, beats-asym, beats-trans, beats-neither}
use Rattle.elem.proofs.laws.beats_is_an_order.Goals as goal

pub returns-clause-irreflexive : goal.returns-clause-irreflexive
returns-clause-irreflexive c = beats-same

pub returns-clause-asymmetric : goal.returns-clause-asymmetric
returns-clause-asymmetric c = beats-asym

pub returns-clause-transitive : goal.returns-clause-transitive
returns-clause-transitive c = beats-trans

pub returns-clause-total : goal.returns-clause-total
returns-clause-total c = beats-neither
