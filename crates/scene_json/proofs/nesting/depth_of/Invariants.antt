use Rattle.std.proofs.Common.{◌≡◌, ◌+◌, ◌≤◌, length}
use Rattle.json_text.specs.Walk.{outside}
use Rattle.scene_json.proofs.Depths.{deepest}
use Rattle.scene_json.proofs.nesting.depth_of.Given as goal

abbrev pub invariant-loop-byte : goal.invariant-loop-byte
invariant-loop-byte l = record {
  within : l.level ≤ l.deepest;
  seen : l.level + length l.rest ≤ length l.initial.rest;
  same : deepest outside l.level l.deepest l.rest ≡ deepest outside 0 0 l.initial.rest;
}

abbrev pub decreases-loop-byte : goal.decreases-loop-byte
decreases-loop-byte l = length l.rest
