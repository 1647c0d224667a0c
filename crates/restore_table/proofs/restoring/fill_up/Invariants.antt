use Rattle.std.proofs.Common.{◌≡◌, ◌≤◌, ◌+◌, ◌-◌, ◌++◌, map, take, drop, length}
use Rattle.std.specs.List.{AllByRecursion}
use Rattle.json_text.specs.Members.{pairs}
use Rattle.json_text.specs.Value.{IsCompact}
use Rattle.restore_table.specs.declared.table.Row.{Row}
use Rattle.restore_table.specs.Merged.{merged}
use Rattle.restore_table.specs.inner.Merged.{row_pair}
use Rattle.restore_table.specs.Table.{defaults}
use Rattle.restore_table.proofs.restoring.fill_up.Given as goal

-- the members before the place, and what the others and the rows left make, are what all make
abbrev pub invariant-loop-row : goal.invariant-loop-row
invariant-loop-row l = record {
  bound : l.place ≤ length l.members.items;
  compact : AllByRecursion (λ (row : Row). IsCompact 1 row.default.now) l.left;
  made : pairs (take l.place l.members.items) ++ merged (pairs (drop l.place l.members.items)) (map row_pair l.left)
      ≡ merged (pairs l.initial.members.items) defaults;
}

abbrev pub decreases-loop-row : goal.decreases-loop-row
decreases-loop-row l = length l.left + (length l.members.items - l.place)
