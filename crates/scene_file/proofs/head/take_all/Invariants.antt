use Rattle.std.proofs.Common.{List, ◌++◌, take}
use Rattle.json_text.specs.Compact.{Member as Pair}
use Rattle.json_text.specs.Members.{pairs}
use Rattle.file_table.specs.Table.{AreLeastEntries}
use Rattle.scene_file.proofs.head.take_all.Given as goal

abbrev pub invariant-loop-member : goal.invariant-loop-member
invariant-loop-member l = (given : List Pair) → AreLeastEntries given l.fn.table
    → AreLeastEntries (given ++ pairs (take l.member-index l.members)) l.table
