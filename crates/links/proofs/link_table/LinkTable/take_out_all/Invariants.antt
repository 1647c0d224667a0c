use Rattle.std.proofs.Common.{◌≡◌, ◌≤◌, not, ◌&&◌, take}
use Rattle.links.specs.declared.rows.LinkRow.{LinkRow}
use Rattle.links.specs.Rows.{has_row}
use Rattle.links.proofs.link_table.LinkTable.take_out_all.Given as goal

abbrev pub invariant-loop-row : goal.invariant-loop-row
invariant-loop-row l =
    ((row : LinkRow) → has_row l.self.rows row
    ≡ (has_row l.initial.self.rows row && not (has_row (take l.row-index l.row-items) row)))
    × (l.initial.self.spare ≤ l.self.spare)
