use Rattle.std.proofs.Common.{◌≡◌, map}
use Rattle.std.specs.Map.Iter.{deref_pair}
use Rattle.json_text.specs.Members.{pairs}
use Rattle.file_table.proofs.table.members_of.Given as goal

abbrev pub invariant-loop-id : goal.invariant-loop-id
invariant-loop-id l = pairs l.members.items ≡ map deref_pair l.yielded
