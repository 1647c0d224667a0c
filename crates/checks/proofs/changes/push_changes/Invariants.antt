-- the lines on the elements so far
use Rattle.std.proofs.Common.{◌≡◌, ◌++◌, take, nat_cmp}
use Rattle.std.specs.List.{flat_map}
use Rattle.std.specs.BTreeMap.{get}
use Rattle.std.specs.Cmp.Lexicographic.{slice_cmp}
use Rattle.checks.specs.Lines.{changed_line}
use Rattle.checks.proofs.changes.push_changes.Given as goal

abbrev pub invariant-loop-e : goal.invariant-loop-e
invariant-loop-e l = l.out.items ≡ l.initial.out.items ++ flat_map (changed_line (get (slice_cmp nat_cmp) l.kept) l.spots) (take l.e-index l.shown)
