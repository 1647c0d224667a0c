use Rattle.std.proofs.Common.{◌≡◌, map, take}
use Rattle.links.specs.inner.Tables.{row_front}
use Rattle.links.proofs.table.fronts_of.Given as goal

abbrev pub invariant-loop-row : goal.invariant-loop-row
invariant-loop-row l = l.fronts.items ≡ map row_front (take l.row-index l.rows.items)
