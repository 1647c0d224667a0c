use Rattle.delta.proofs.PartLaws.{applied-once}
use Rattle.delta.proofs.laws.applied_is_unique.Goals as goal

pub returns : goal.returns
returns c = λ part now result other is is' kind p q. applied-once part now result other is is' p q kind
