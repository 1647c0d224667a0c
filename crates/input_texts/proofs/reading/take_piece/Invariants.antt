use Rattle.std.proofs.Common.{◌≡◌, ℕ, ◌+◌, ◌-◌, ◌*◌, ◌^◌, ◌<◌, ◌≤◌, List, [], ◌++◌, None, cond, drop, length}
use Rattle.std.specs.Prelude.{is_none, min}
use Rattle.input_texts.specs.inner.Texts.{StandsIn}
use Rattle.input_texts.proofs.reading.take_piece.Given as goal

-- the texts of the stream so far and of the piece up to the offset are read
abbrev pub invariant-texts : goal.invariant-texts
invariant-texts g l = record {
  within : l.at ≤ length l.piece;
  fits : l.stop ≡ None → l.feed.used + (length l.piece - l.at) < 2 ^ 64;
  stands : (stream : List ℕ) → StandsIn stream [] l.fn.feed (g.R.Reader.seen l.fn.reader) l.fn.stop
      → StandsIn (stream ++ l.piece) (drop l.at l.piece) l.feed (g.R.Reader.seen l.reader) l.stop;
}

-- while nothing has stopped: the bytes that are left, each twice, and whether a value is under way
abbrev pub decreases-texts : goal.decreases-texts
decreases-texts g l = cond (is_none l.stop) (1 + (2 * (length l.piece - l.at) + min 1 (length l.feed.rest))) 0
