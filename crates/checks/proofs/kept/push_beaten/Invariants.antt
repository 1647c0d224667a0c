-- the lines so far, and those to come
use Rattle.std.proofs.Common.{◌≡◌, ◌++◌, drop, nat_cmp}
use Rattle.std.specs.BTreeMap.{get}
use Rattle.std.specs.Cmp.Lexicographic.{slice_cmp}
use Rattle.checks.specs.Lines.{beaten_lines}
use Rattle.checks.proofs.kept.push_beaten.Given as goal

abbrev pub invariant-loop-n : goal.invariant-loop-n
invariant-loop-n l = let kept = get (slice_cmp nat_cmp) l.kept in
    l.out.items ++ beaten_lines kept l.n (drop l.n l.updates) (drop l.n l.spots)
    ≡ l.initial.out.items ++ beaten_lines kept 0 l.updates l.spots
