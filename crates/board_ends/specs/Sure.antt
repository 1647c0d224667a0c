-- A source and a sink that never fail: their counts of faults are 0, whatever is called. This
-- project's own.
use Rattle.std.specs.Prelude.{ℕ, List, Some}
use Rattle.board_ends.specs.Ends.{SourceEnd, SinkEnd, untold_sink}

-- A source that never fails: the bytes still to come, and how many of them a read gives at most.
pub record SureSourceState : Type 0 where
  pub left : List ℕ
  pub chunk : ℕ

-- what is seen of it: it tells all bytes still to come, and counts no fault
abbrev pub sure_source_end : SureSourceState → SourceEnd
sure_source_end source = record { left = Some source.left; faults = 0 }

-- what is seen of a sink that never fails, which takes so many bytes at most at once: it tells no
-- content, and counts no fault
abbrev pub sure_sink_end : ℕ → SinkEnd
sure_sink_end chunk = untold_sink 0
