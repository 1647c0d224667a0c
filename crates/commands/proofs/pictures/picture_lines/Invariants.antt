use Rattle.std.proofs.Common.{take}
use Rattle.json_text.specs.Members.{pairs}
use Rattle.commands.specs.Pictures.{AreLines}
use Rattle.commands.proofs.pictures.picture_lines.Given as goal

-- the files so far have their lines
abbrev pub invariant-loop-file : goal.invariant-loop-file
invariant-loop-file l = AreLines (pairs (take l.file-index l.files)) l.lines.items
