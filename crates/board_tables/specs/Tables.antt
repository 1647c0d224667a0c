-- What is seen of tables, and what their calls make of it.
use Rattle.std.specs.Prelude.{◌≡◌, ◌⊎◌, ℕ, Bool, true, false, Option, Some, IsTrue}
use Rattle.board_tables.specs.declared.writes.Write.{Write}
use Rattle.board_tables.specs.Boards.{Boards, written}

-- What tables keep: the boards of the last commit, the boards with all that was put since, and
-- whether a commit failed, after which no call does more. This project's own.
pub record Kept : Type 0 where
  pub committed : Boards
  pub now : Boards
  pub is_shut : Bool

-- What is seen of tables: what they keep, where told, and how many calls failed. What was told once
-- may no longer be told later. This project's own.
pub record TablesEnd : Type 0 where
  pub kept : Option Kept
  pub faults : ℕ

-- Where the tables tell what they keep, the boards are so. This project's own.
abbrev pub Shows : TablesEnd → (Boards → Type 0) → Type 0
Shows tables Are = (kept : Kept) → tables.kept ≡ Some kept → Are kept.now

-- Where the tables tell what they keep after a call, they told it before, and the two are so. This
-- project's own.
abbrev pub Follows : TablesEnd → TablesEnd → (Kept → Kept → Type 0) → Type 0
Follows before after Are =
    (kept : Kept) → after.kept ≡ Some kept → (was : Kept) × (before.kept ≡ Some was) × Are was kept

-- nothing changed
abbrev pub IsSame : TablesEnd → TablesEnd → Type 0
IsSame before after = Follows before after (λ was kept. kept ≡ was)

-- the write was put, and nothing was committed
abbrev pub IsWritten : TablesEnd → TablesEnd → Write → Type 0
IsWritten before after write =
    Follows before after (λ was kept. (was.is_shut ≡ false) × (kept ≡ record was { now = written was.now write }))

-- all that was put is committed
abbrev pub IsCommitted : TablesEnd → TablesEnd → Type 0
IsCommitted before after =
    Follows before after (λ was kept. (was.is_shut ≡ false) × (kept ≡ record was { committed = was.now }))

-- the commit failed
abbrev pub IsShut : TablesEnd → TablesEnd → Type 0
IsShut before after = Follows before after (λ was kept. kept ≡ record was { is_shut = true })

-- What a stop may leave: what was committed, or, after a failed commit, that with all that was put
-- since. This project's own.
abbrev pub MayBeLeft : Kept → Boards → Type 0
MayBeLeft kept boards = (boards ≡ kept.committed) ⊎ (IsTrue kept.is_shut × (boards ≡ kept.now))

-- The tables were opened again: they have one of the outcomes that a stop could leave, and nothing
-- is put. This project's own.
abbrev pub IsReopened : TablesEnd → TablesEnd → (Boards → Type 0) → Type 0
IsReopened before after Leaves =
    Follows before after (λ was kept. Leaves kept.committed × (kept.now ≡ kept.committed) × (kept.is_shut ≡ false))

-- All that was put is committed, and nothing is put since. This project's own.
abbrev pub IsFound : TablesEnd → TablesEnd → Type 0
IsFound before after =
    Follows before after (λ was kept. (kept.committed ≡ was.now) × (kept.now ≡ was.now) × (kept.is_shut ≡ false))

-- What is committed is what was committed, or that with all that was put; nothing is put since.
-- This project's own.
abbrev pub IsFoundWhole : TablesEnd → TablesEnd → Type 0
IsFoundWhole before after =
    Follows before after (λ was kept. ((kept.committed ≡ was.committed) ⊎ (kept.committed ≡ was.now))
    × (kept.now ≡ kept.committed) × (kept.is_shut ≡ false))

-- What is committed is what was committed, if no commit failed, and nothing is put since. This
-- project's own.
abbrev pub IsGivenUp : TablesEnd → TablesEnd → Type 0
IsGivenUp before after =
    Follows before after (λ was kept. was.is_shut ≡ false → (kept.committed ≡ was.committed) × (kept.now ≡ was.committed))
