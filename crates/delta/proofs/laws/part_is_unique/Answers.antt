use Rattle.delta.proofs.PartLaws.{part-once}
use Rattle.delta.proofs.laws.part_is_unique.Goals as goal

pub returns : goal.returns
returns c = part-once
