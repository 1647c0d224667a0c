use Rattle.std.proofs.Common.{◌≡◌, ◌≤◌, ℕ, List, vec_len}
use Rattle.board_ends.specs.Ends.{Gave}
use Rattle.room_disk.specs.inner.UnderWay.{StandsIn}
use Rattle.room_disk.proofs.recovering.read_lines.Given as goal

-- what the source gave so far is read
abbrev pub invariant-pieces : goal.invariant-pieces
invariant-pieces g l = record {
  taken : (bytes : List ℕ) × Gave (g.S.Source.seen l.fn.source) (g.S.Source.seen l.source) bytes
      × StandsIn bytes l.begun.items l.recovery;
  counted : (g.S.Source.seen l.fn.source).faults ≤ (g.S.Source.seen l.source).faults;
  piece : vec_len l.piece ≡ 65536;
}
