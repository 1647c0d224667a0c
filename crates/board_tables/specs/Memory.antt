-- Tables over memory, as contracts see them.
use Rattle.std.specs.Prelude.{◌≡◌, ◌⊎◌, ◌≤◌, ℕ, List, [], ◌∷◌, ◌++◌, Bool, true, false, Option, Some, IsTrue, MatchBool, length, take}
use Rattle.board_ends.specs.Counts.{Rose}
use Rattle.board_tables.specs.declared.memory.CommitFault.{CommitFault}
use Rattle.board_tables.specs.declared.writes.Write.{Write}
use Rattle.board_tables.specs.Boards.{Boards, no_boards, all_written}
use Rattle.board_tables.specs.Tables.{Kept, TablesEnd, MayBeLeft}

-- Tables over memory: all writes that were put, how many of them are committed, whether a commit
-- failed, the commit that fails, and how many calls failed. This project's own.
pub record MemTablesState : Type 0 where
  pub writes : List Write
  pub committed : ℕ
  pub is_shut : Bool
  pub fault : Option CommitFault
  pub faults : ℕ

-- what they keep
abbrev pub mem_kept : MemTablesState → Kept
mem_kept tables = record {
  committed = all_written no_boards (take tables.committed tables.writes);
  now = all_written no_boards tables.writes;
  is_shut = tables.is_shut;
}

-- what is seen of them: they tell all
abbrev pub mem_end : MemTablesState → TablesEnd
mem_end tables = record { kept = Some (mem_kept tables); faults = tables.faults }

-- what a stop may leave of them
abbrev pub MemLeaves : MemTablesState → Boards → Type 0
MemLeaves tables boards = MayBeLeft (mem_kept tables) boards

-- A write was put: it is the last one, and no more is committed.
pub record HasKept (old new : MemTablesState) (write : Write) : Type 0 where
  pub was_open : old.is_shut ≡ false
  pub within : old.committed ≤ length old.writes
  pub is : new ≡ record old { writes = old.writes ++ write ∷ [] }

-- A commit came: all writes are committed, or the tables are shut.
pub record HasMarked (old new : MemTablesState) (done : Bool) : Type 0 where
  pub writes : new.writes ≡ old.writes
  pub committed : MatchBool done (new.committed ≡ length old.writes) (new.committed ≡ old.committed)
  pub was_open : IsTrue done → old.is_shut ≡ false
  pub shut : MatchBool done (new.is_shut ≡ false) (new.is_shut ≡ true)
  pub rose : done ≡ false → Rose old.faults new.faults
  pub counted : old.faults ≤ new.faults

-- A stop came: the writes are those that were committed, or, after a failed commit, all of them.
pub record HasStopped (old new : MemTablesState) : Type 0 where
  pub writes : (new.writes ≡ take old.committed old.writes) ⊎ (IsTrue old.is_shut × (new.writes ≡ old.writes))
  pub all : new.committed ≡ length new.writes
  pub shut : new.is_shut ≡ false
  pub faults : new.faults ≡ old.faults
