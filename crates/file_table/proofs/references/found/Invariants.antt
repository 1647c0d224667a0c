use Rattle.std.proofs.Common.{◌≡◌}
use Rattle.std.specs.List.{filter_map}
use Rattle.json_text.specs.Members.{pairs}
use Rattle.file_table.specs.References.{file_of}
use Rattle.file_table.proofs.references.found.Given as goal

abbrev pub invariant-loop-id : goal.invariant-loop-id
invariant-loop-id l = pairs l.members.items ≡ filter_map (file_of l.entries.entries) l.yielded
