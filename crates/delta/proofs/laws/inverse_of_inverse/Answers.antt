use Rattle.delta.proofs.PartLaws.{inverse-twice}
use Rattle.delta.proofs.laws.inverse_of_inverse.Goals as goal

pub returns : goal.returns
returns c = inverse-twice
