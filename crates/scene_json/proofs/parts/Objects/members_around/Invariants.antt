use Rattle.std.proofs.Common.{◌-◌, List, length}
use Rattle.json_text.specs.Compact.{Member}
use Rattle.scene_json.specs.Walks.{AreBehind}
use Rattle.scene_json.proofs.parts.Objects.members_around.Given as goal

abbrev pub invariant-loop-at : goal.invariant-loop-at
invariant-loop-at l =
    (members : List Member) → AreBehind l.self members → AreBehind (record { text = l.bytes; at = l.at }) members

abbrev pub decreases-loop-at : goal.decreases-loop-at
decreases-loop-at l = length l.bytes - l.at
