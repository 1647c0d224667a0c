-- The items nest once.
use Rattle.restore_table.proofs.legacy.arrows_raw.Goals as goal

pub returns-clause-nests : goal.returns-clause-nests
returns-clause-nests c = c.raw_array-2.ensures.nests 1 (rw c.from_vec.ensures c.loop-id.invariant.shallow)
