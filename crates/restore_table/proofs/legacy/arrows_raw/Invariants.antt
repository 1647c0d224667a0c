-- The items made so far are the texts of the first ids.
use Rattle.std.proofs.Common.{◌≡◌, All, map, take}
use Rattle.json_text.specs.Value.{IsCompact}
use Rattle.restore_table.specs.Restored.{arrow_text}
use Rattle.restore_table.proofs.legacy.arrows_raw.Given as goal

abbrev pub invariant-loop-id : goal.invariant-loop-id
invariant-loop-id l = record {
  made : l.entries.items ≡ map arrow_text (take l.id-index l.ids);
  shallow : All (IsCompact 1) l.entries.items;
}
