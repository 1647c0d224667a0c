use Rattle.std.proofs.Common.{◌≡◌, ◌-◌, List, ℕ, length}
use Rattle.std.specs.List.{AllByRecursion}
use Rattle.json_text.specs.Compact.{array_text}
use Rattle.json_text.specs.Value.{IsCompact}
use Rattle.scene_json.proofs.ItemsLeft.{AreItemsLeft}
use Rattle.scene_json.proofs.parts.items.Given as goal

abbrev pub invariant-loop-at : goal.invariant-loop-at
invariant-loop-at l = (all : List (List ℕ)) → AllByRecursion (IsCompact 127) all → l.bytes ≡ array_text all
    → AreItemsLeft l.bytes l.at all l.found.items

abbrev pub decreases-loop-at : goal.decreases-loop-at
decreases-loop-at l = length l.bytes - l.at
