use Rattle.std.specs.Prelude.{ℕ, ◌-◌, Bool, ◌&&◌, nat_lt, nat_le, List, Some, length, min}
use Rattle.board_ends.specs.CallNumbers.{CallNumbers}
use Rattle.board_ends.specs.Ends.{SourceEnd, SinkEnd}

-- A source over memory: the bytes still to come, how many of them a read gives at most, its reads,
-- and how many of them failed. This project's own.
pub record MemSourceState : Type 0 where
  pub left : List ℕ
  pub chunk : ℕ
  pub reads : CallNumbers
  pub faults : ℕ

-- what is seen of it: it tells all bytes still to come
abbrev pub source_end : MemSourceState → SourceEnd
source_end source = record { left = Some source.left; faults = source.faults }

-- how many bytes a read that doesn't fail gives into a buffer of this length
abbrev pub given_count : MemSourceState → ℕ → ℕ
given_count source space = min space (min source.chunk (length source.left))

-- A sink over memory: the bytes that it took, how many of them a write takes at most, how many it
-- has room for in all, its writes, and how many of them failed. This project's own.
pub record MemSinkState : Type 0 where
  pub held : List ℕ
  pub chunk : ℕ
  pub room : ℕ
  pub writes : CallNumbers
  pub faults : ℕ

-- what is seen of it: it tells all bytes that it took, which are safe at once
abbrev pub sink_end : MemSinkState → SinkEnd
sink_end sink =
    record { held = Some sink.held; safe = Some (length sink.held); faults = sink.faults }

-- whether the piece has a byte and the sink has no room for it
abbrev pub is_full : MemSinkState → List ℕ → Bool
is_full sink piece = nat_lt 0 (length piece) && nat_le sink.room (length sink.held)

-- how many bytes of the piece a write that doesn't fail takes
abbrev pub taken_count : MemSinkState → List ℕ → ℕ
taken_count sink piece = min (length piece) (min sink.chunk (sink.room - length sink.held))
