use Rattle.std.proofs.Common.{◌-◌, ◌≤◌, ℕ, List as Items, length, take}
use Rattle.input_texts.specs.Answering.{WereAnswered}
use Rattle.input_texts.specs.Lines.{lines_behind, begun_behind}
use Rattle.input_texts.specs.inner.Begun.{IsBegun}
use Rattle.input_texts.proofs.answering.take_piece.Given as goal

-- the lines that end in the piece so far are answered
abbrev pub invariant-stretches : goal.invariant-stretches
invariant-stretches g l = record {
  within : l.at ≤ length l.piece;
  begun : (bytes : Items ℕ) → IsBegun l.fn.begun bytes → IsBegun l.begun (begun_behind bytes (take l.at l.piece));
  answered : (bytes : Items ℕ) → IsBegun l.fn.begun bytes
      → WereAnswered g.A.Answerer.answers l.lost (g.A.Answerer.stands l.fn.answerer) (g.A.Answerer.stands l.answerer)
      (g.K.Sink.seen l.fn.sink) (g.K.Sink.seen l.sink) (lines_behind bytes (take l.at l.piece));
  counted : (g.K.Sink.seen l.fn.sink).faults ≤ (g.K.Sink.seen l.sink).faults;
}

abbrev pub decreases-stretches : goal.decreases-stretches
decreases-stretches g l = length l.piece - l.at
