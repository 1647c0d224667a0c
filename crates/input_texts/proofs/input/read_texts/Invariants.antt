use Rattle.std.proofs.Common.{◌≡◌, ◌+◌, ◌-◌, ◌≤◌, vec_len}
use Rattle.input_texts.proofs.Streams.{HasTaken}
use Rattle.input_texts.proofs.input.read_texts.Given as goal

-- what the source gave so far was taken
abbrev pub invariant-pieces : goal.invariant-pieces
invariant-pieces g l = record {
  within : l.used ≤ l.limit + 1;
  taken : HasTaken (g.S.Source.seen l.fn.source) (g.S.Source.seen l.source) l.used l.feed (g.R.Reader.seen l.reader)
      l.stop;
  counted : (g.S.Source.seen l.fn.source).faults ≤ (g.S.Source.seen l.source).faults;
  piece : vec_len l.piece ≡ 65536;
}

abbrev pub decreases-pieces : goal.decreases-pieces
decreases-pieces g l = l.limit + 1 - l.used
