use Rattle.std.proofs.Common.{◌≡◌, drop}
use Rattle.json_text.specs.Members.{pairs}
use Rattle.scene_json.specs.Named.{value_at}
use Rattle.elem_read.proofs.near.value_first.Given as goal

abbrev pub invariant-loop-at : goal.invariant-loop-at
invariant-loop-at l = value_at l.name (pairs l.members) ≡ value_at l.name (pairs (drop l.at l.members))
