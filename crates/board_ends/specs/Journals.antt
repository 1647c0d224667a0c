use Rattle.std.specs.Prelude.{ℕ, Some}
use Rattle.board_ends.specs.CallNumbers.{CallNumbers}
use Rattle.board_ends.specs.Ends.{SinkEnd}
use Rattle.board_ends.specs.Memory.{MemSinkState}

-- A journal over memory: the sink that takes its bytes, how many of them are safe, and its syncs.
-- This project's own.
pub record MemJournalState : Type 0 where
  pub sink : MemSinkState
  pub safe : ℕ
  pub syncs : CallNumbers

-- what is seen of it: it tells all bytes that its sink took, and how many of them are safe
abbrev pub journal_end : MemJournalState → SinkEnd
journal_end journal =
    record { held = Some journal.sink.held; safe = Some journal.safe; faults = journal.sink.faults }
