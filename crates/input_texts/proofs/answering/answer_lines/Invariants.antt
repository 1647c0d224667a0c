use Rattle.std.proofs.Common.{◌≡◌, ◌≤◌, ℕ, List as Items, vec_len}
use Rattle.board_ends.specs.Ends.{Gave}
use Rattle.input_texts.specs.Answering.{WereAnswered}
use Rattle.input_texts.specs.Lines.{lines_of, begun_of}
use Rattle.input_texts.specs.inner.Begun.{IsBegun}
use Rattle.input_texts.proofs.answering.answer_lines.Given as goal

-- the lines of what the source gave so far are answered
abbrev pub invariant-pieces : goal.invariant-pieces
invariant-pieces g l = record {
  talked : (bytes : Items ℕ) × Gave (g.S.Source.seen l.fn.source) (g.S.Source.seen l.source) bytes
      × IsBegun l.begun (begun_of bytes)
      × WereAnswered g.A.Answerer.answers l.lost (g.A.Answerer.stands l.fn.answerer) (g.A.Answerer.stands l.answerer)
      (g.K.Sink.seen l.fn.sink) (g.K.Sink.seen l.sink) (lines_of bytes);
  source_counted : (g.S.Source.seen l.fn.source).faults ≤ (g.S.Source.seen l.source).faults;
  sink_counted : (g.K.Sink.seen l.fn.sink).faults ≤ (g.K.Sink.seen l.sink).faults;
  piece : vec_len l.piece ≡ 65536;
}
