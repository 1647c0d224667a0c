use Rattle.std.proofs.Common.{◌≤◌, ◌-◌, ℕ, List, length, drop, option_copied}
use Rattle.json_text.specs.Members.{pairs}
use Rattle.json_text.specs.Compact.{Member}
use Rattle.scene_json.specs.inner.Passes.{StandHere}
use Rattle.scene_json.proofs.MembersLeft.{ArePassed}
use Rattle.scene_json.proofs.parts.push_members.Given as goal

abbrev pub invariant-loop-at : goal.invariant-loop-at
invariant-loop-at l = record {
  past : l.start ≤ l.at;
  left : (all : List Member) (rest : List ℕ) → StandHere (drop l.start l.value) all rest
      → ArePassed (option_copied l.stop) all (pairs l.fn.found.items) (pairs l.found.items) rest (drop l.at l.value);
}

abbrev pub decreases-loop-at : goal.decreases-loop-at
decreases-loop-at l = length l.value - l.at
