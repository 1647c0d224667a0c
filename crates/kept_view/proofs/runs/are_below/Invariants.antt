use Rattle.std.proofs.Common.{◌≡◌, true, take}
use Rattle.std.specs.Option.{option_copied}
use Rattle.index_repair.specs.Repair.{are_below}
use Rattle.kept_view.proofs.runs.are_below.Given as goal

abbrev pub invariant-loop-key : goal.invariant-loop-key
invariant-loop-key l = are_below (option_copied l.above) (take l.key-index l.part.items) ≡ true
