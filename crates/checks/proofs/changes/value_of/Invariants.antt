-- no member so far has the name
use Rattle.std.proofs.Common.{◌≡◌, drop}
use Rattle.json_text.specs.Members.{pairs}
use Rattle.scene_json.specs.Named.{value_at}
use Rattle.checks.proofs.changes.value_of.Given as goal

abbrev pub invariant-loop-member : goal.invariant-loop-member
invariant-loop-member l = value_at l.name (pairs l.members) ≡ value_at l.name (pairs (drop l.member-index l.members))
