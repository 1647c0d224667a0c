use Rattle.std.proofs.Common.{take}
use Rattle.json_text.specs.Members.{pairs}
use Rattle.file_table.specs.Table.{AreLeastEntries}
use Rattle.board_paste.proofs.pasting.files_of.Given as goal

abbrev pub invariant-loop-file : goal.invariant-loop-file
invariant-loop-file l = AreLeastEntries (pairs (take l.file-index l.files)) l.table
