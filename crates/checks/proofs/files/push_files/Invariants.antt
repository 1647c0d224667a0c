-- the lines on the files so far
use Rattle.std.proofs.Common.{◌≡◌, ◌++◌, take}
use Rattle.std.specs.List.{flat_map}
use Rattle.json_text.specs.Members.{pairs}
use Rattle.file_table.specs.References.{references}
use Rattle.checks.specs.Lines.{file_line}
use Rattle.checks.proofs.files.push_files.Given as goal

abbrev pub invariant-loop-file : goal.invariant-loop-file
invariant-loop-file l = l.out.items ≡ l.initial.out.items ++ flat_map (file_line (references l.shown)) (pairs (take l.file-index l.files))
