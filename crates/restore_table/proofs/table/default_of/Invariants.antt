use Rattle.std.proofs.Common.{◌≡◌, map, drop}
use Rattle.scene_json.specs.Named.{value_at}
use Rattle.restore_table.specs.inner.Merged.{row_pair}
use Rattle.restore_table.proofs.table.default_of.Given as goal

abbrev pub invariant-loop-row : goal.invariant-loop-row
invariant-loop-row l =
    value_at l.name (map row_pair l.row-items) ≡ value_at l.name (map row_pair (drop l.row-index l.row-items))
