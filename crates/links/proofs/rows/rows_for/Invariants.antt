use Rattle.std.proofs.Common.{◌≡◌, map}
use Rattle.links.specs.Rows.{row_of}
use Rattle.links.proofs.rows.rows_for.Given as goal

abbrev pub invariant-loop-named : goal.invariant-loop-named
invariant-loop-named l = l.rows.items ≡ map (row_of l.e) l.yielded
