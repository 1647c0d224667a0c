-- the texts so far are the first ones, and others may stand behind them
use Rattle.std.proofs.Common.{◌+◌, ◌-◌, ◌≤◌, List, ◌++◌, length}
use Rattle.checks.specs.Reading.{AreTexts}
use Rattle.checks.specs.declared.judged.Judged.{Judged}
use Rattle.checks.proofs.reading.texts_of.Given as goal

abbrev pub invariant-texts : goal.invariant-texts
invariant-texts l = record {
  within : l.at ≤ length l.bytes;
  lead : (more : List Judged) → AreTexts l.bytes (length l.texts.items + 1) l.at more
      → AreTexts l.bytes 1 0 (l.texts.items ++ more);
}

abbrev pub decreases-texts : goal.decreases-texts
decreases-texts l = length l.bytes - l.at
