-- The events so far.
use Rattle.std.proofs.Common.{◌≡◌, ◌<◌, ◌≤◌, ◌++◌, flat_map, map}
use Rattle.workload.specs.Deeds.{course}
use Rattle.workload.specs.Texts.{deed_text, line}
use Rattle.workload.proofs.making.push_events.Given as goal

abbrev pub invariant-loop-number : goal.invariant-loop-number
invariant-loop-number l = record {
  lines : l.out.items ≡ l.initial.out.items ++ flat_map line (map deed_text (course l.seed l.number).deeds);
  made : l.made ≡ (course l.seed l.number).made;
  generator : l.generator ≡ (course l.seed l.number).generator;
  few : l.made ≤ l.number;
  some : 0 < l.number → 0 < l.made;
}
