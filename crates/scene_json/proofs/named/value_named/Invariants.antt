use Rattle.std.proofs.Common.{◌≡◌, drop}
use Rattle.json_text.specs.Members.{pairs}
use Rattle.scene_json.specs.Named.{value_at}
use Rattle.scene_json.proofs.named.value_named.Given as goal

abbrev pub invariant-loop-member : goal.invariant-loop-member
invariant-loop-member l = value_at l.name (pairs l.members) ≡ value_at l.name (pairs (drop l.member-index l.members))
