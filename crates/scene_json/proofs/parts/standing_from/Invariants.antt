use Rattle.std.proofs.Common.{◌≡◌, ◌≤◌, ◌-◌, ℕ, List, ◌++◌, All, length, drop, map}
use Rattle.json_text.specs.Members.{pairs}
use Rattle.json_text.specs.Compact.{Member}
use Rattle.members.specs.Standing.{member_at, Stands}
use Rattle.scene_json.specs.inner.Passes.{StandHere}
use Rattle.scene_json.proofs.parts.standing_from.Given as goal

abbrev pub invariant-loop-at : goal.invariant-loop-at
invariant-loop-at l = record {
  past : l.start ≤ l.at;
  stand : All (Stands l.value) l.places.items;
  left : (all : List Member) (rest : List ℕ) → StandHere (drop l.start l.value) all rest
      → (left : List Member) × (all ≡ pairs (map (member_at l.value) l.places.items) ++ left)
      × StandHere (drop l.at l.value) left rest;
}

abbrev pub decreases-loop-at : goal.decreases-loop-at
decreases-loop-at l = length l.value - l.at
