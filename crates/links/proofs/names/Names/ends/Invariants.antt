use Rattle.std.proofs.Common.{take}
use Rattle.links.specs.Names.{has_end_at}
use Rattle.links.specs.inner.Tables.{IsTable}
use Rattle.links.proofs.names.Names.ends.Given as goal

abbrev pub invariant-loop-e : goal.invariant-loop-e
invariant-loop-e l = IsTable has_end_at (take l.e-index l.self) l.rows.items
