use Rattle.std.proofs.Common.{◌≡◌, ◌+◌, ◌≤◌, length}
use Rattle.json_text.specs.Walk.{outside}
use Rattle.scene_json.proofs.Skipped.{skipped}
use Rattle.scene_json.proofs.parts.after_brackets.Given as goal

abbrev pub invariant-loop-byte : goal.invariant-loop-byte
invariant-loop-byte l = record {
  seen : l.level + length l.rest ≤ length l.bytes;
  same : skipped outside l.level l.rest ≡ skipped outside 0 l.bytes;
}

abbrev pub decreases-loop-byte : goal.decreases-loop-byte
decreases-loop-byte l = length l.rest
