-- the names of the members so far
use Rattle.std.proofs.Common.{◌≡◌, ◌++◌, take}
use Rattle.std.specs.List.{flat_map}
use Rattle.json_text.specs.Members.{pairs}
use Rattle.checks.specs.Lines.{changed_name}
use Rattle.checks.proofs.changes.push_changed.Given as goal

abbrev pub invariant-loop-member : goal.invariant-loop-member
invariant-loop-member l = l.names.items ≡ l.initial.names.items ++ flat_map (changed_name (pairs l.given)) (pairs (take l.member-index l.shown))
