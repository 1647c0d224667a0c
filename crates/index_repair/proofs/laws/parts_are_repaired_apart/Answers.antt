use Rattle.std.proofs.Common.{None}
use Rattle.index_repair.proofs.Parts.{repaired-cut, below-next}
use Rattle.index_repair.proofs.laws.parts_are_repaired_apart.Goals as goal

pub returns-clause-whole : goal.returns-clause-whole
returns-clause-whole c = repaired-cut None

pub returns-clause-part : goal.returns-clause-part
returns-clause-part c = repaired-cut

pub returns-clause-never_fall : goal.returns-clause-never_fall
returns-clause-never_fall c = below-next
