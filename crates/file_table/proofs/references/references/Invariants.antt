use Rattle.std.proofs.Common.{◌≡◌, take}
use Rattle.file_table.specs.References.{references}
use Rattle.file_table.proofs.references.references.Given as goal

abbrev pub invariant-loop-e : goal.invariant-loop-e
invariant-loop-e l = l.ids.items ≡ references (take l.e-index l.list)
