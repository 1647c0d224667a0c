use Rattle.std.proofs.Common.{◌≡◌, ◌+◌, ◌≤◌, ◌||◌, ◌++◌, length}
use Rattle.links.specs.declared.rows.LinkRow.{LinkRow}
use Rattle.links.specs.Rows.{has_row}
use Rattle.links.proofs.link_table.LinkTable.put_in_all.Given as goal

-- the rows so far are put in, and the others are left
abbrev pub invariant-loop-row : goal.invariant-loop-row
invariant-loop-row l = record {
  rows : (row : LinkRow) → has_row l.self.rows row ≡ (has_row l.yielded row || has_row l.initial.self.rows row);
  parts : l.fn.rows ≡ l.yielded ++ l.row-iterator.rest.items;
  spare : l.initial.self.spare ≤ l.self.spare + length l.yielded;
}
