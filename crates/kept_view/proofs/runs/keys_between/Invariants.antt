use Rattle.std.proofs.Common.{◌≡◌}
use Rattle.kept_view.specs.inner.Runs.{part_of, stored_keys}
use Rattle.kept_view.proofs.runs.keys_between.Given as goal

abbrev pub invariant-loop-at : goal.invariant-loop-at
invariant-loop-at l = l.keys.items ≡ part_of (stored_keys l.live.items l.shown.items) l.start l.at
