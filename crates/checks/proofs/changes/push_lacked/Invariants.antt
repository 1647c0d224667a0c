-- the names of the members so far
use Rattle.std.proofs.Common.{◌≡◌, ◌++◌, take}
use Rattle.std.specs.List.{flat_map}
use Rattle.json_text.specs.Members.{pairs}
use Rattle.checks.specs.Lines.{lacked_name}
use Rattle.checks.proofs.changes.push_lacked.Given as goal

abbrev pub invariant-loop-member : goal.invariant-loop-member
invariant-loop-member l = l.names.items ≡ l.initial.names.items ++ flat_map (lacked_name (pairs l.shown)) (pairs (take l.member-index l.given))
