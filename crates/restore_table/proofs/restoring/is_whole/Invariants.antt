use Rattle.std.proofs.Common.{◌≡◌, [], None, drop, map}
use Rattle.json_text.specs.Members.{pairs}
use Rattle.scene_json.specs.Named.{value_at}
use Rattle.restore_table.specs.inner.Merged.{row_pair, RiseAfter, IsWholeAfter}
use Rattle.restore_table.specs.Restored.{old_name}
use Rattle.restore_table.specs.Table.{defaults}
use Rattle.restore_table.proofs.restoring.is_whole.Given as goal

-- all are whole if those left are, beside the rows left
abbrev pub invariant-loop-at : goal.invariant-loop-at
invariant-loop-at l = record {
  rise : RiseAfter l.last (map row_pair l.left);
  whole : IsWholeAfter l.last (map row_pair l.left) (pairs (drop l.at l.members))
      → IsWholeAfter [] defaults (pairs l.members);
  gone : value_at old_name (pairs (drop l.at l.members)) ≡ None → value_at old_name (pairs l.members) ≡ None;
}
