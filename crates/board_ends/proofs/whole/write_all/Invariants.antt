use Rattle.std.proofs.Common.{length, ◌-◌, ◌≤◌, take}
use Rattle.board_ends.specs.Ends.{Took, KeepsSafe, IsSafeHeld}
use Rattle.board_ends.proofs.whole.write_all.Given as goal

abbrev pub invariant-loop-out : goal.invariant-loop-out
invariant-loop-out g l = record {
  within : l.out ≤ length l.bytes;
  taken : Took (g.K.Sink.seen l.initial.sink) (g.K.Sink.seen l.sink) (take l.out l.bytes);
  safe : KeepsSafe (g.K.Sink.seen l.initial.sink) (g.K.Sink.seen l.sink);
  safe_held : IsSafeHeld (g.K.Sink.seen l.initial.sink) → IsSafeHeld (g.K.Sink.seen l.sink);
  counted : (g.K.Sink.seen l.initial.sink).faults ≤ (g.K.Sink.seen l.sink).faults;
}

abbrev pub decreases-loop-out : goal.decreases-loop-out
decreases-loop-out g l = length l.bytes - l.out
