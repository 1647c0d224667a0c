-- the elements stand in order if those to come do
use Rattle.std.proofs.Common.{◌≡◌, drop, nat_cmp}
use Rattle.std.specs.BTreeMap.{get}
use Rattle.std.specs.Cmp.Lexicographic.{slice_cmp}
use Rattle.checks.specs.Lines.{stand_in_order}
use Rattle.checks.proofs.kept.stand_in_order.Given as goal

abbrev pub invariant-loop-e : goal.invariant-loop-e
invariant-loop-e l = let kept = get (slice_cmp nat_cmp) l.kept in
    stand_in_order kept l.least (drop l.e-index l.shown) ≡ stand_in_order kept 0 l.shown
