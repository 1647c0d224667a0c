use Rattle.std.proofs.Common.{◌≡◌, ◌+◌, ◌≤◌, ◌-◌, vec_len}
use Rattle.board_ends.specs.Ends.{Gave}
use Rattle.board_ends.proofs.whole.read_all.Given as goal

abbrev pub invariant-loop-all : goal.invariant-loop-all
invariant-loop-all g l = record {
  within : vec_len l.all ≤ l.limit + 1;
  given : Gave (g.S.Source.seen l.initial.source) (g.S.Source.seen l.source) l.all.items;
  counted : (g.S.Source.seen l.initial.source).faults ≤ (g.S.Source.seen l.source).faults;
  piece : vec_len l.piece ≡ 65536;
}

abbrev pub decreases-loop-all : goal.decreases-loop-all
decreases-loop-all g l = l.limit + 1 - vec_len l.all
