-- Runs of durable rooms, each resumed from what a stop left of the journal of the one before. This
-- project's own.
use Rattle.std.proofs.Common.{inl, inr}
use Rattle.std.specs.Prelude.{◌≡◌, ◌≢◌, ◌⊎◌, ℕ, List, [], ◌∷◌, map, None, Ok, Contains}
use Rattle.elem.specs.ElementValue.{ElementValue}
use Rattle.board_ends.specs.Ends.{LinksEnd, SinkEnd}
use Rattle.room_core.specs.Rooms.{RoomState}
use Rattle.room_core.specs.declared.limits.RoomLimits.{RoomLimits}
use Rattle.room_disk.specs.Chains.{Run, IsKeptIn, kept_in}
use Rattle.room_disk.specs.Keeping.{Account, IsKept, IsLeft, IsUnopened, untouched}
use Rattle.room_disk.specs.Recovering.{HasNoRecord, Recovered, IsRecoveredAs}
use Rattle.room_disk.specs.declared.keep_end.KeepEnd.{KeepEnd}
use Rattle.scene_file.specs.Heads.{Heading}
use Rattle.commands.specs.Keeping.{WasKeptTo}
use Rattle.commands.specs.Serving.{Begun, Ends}
use Rattle.commands.specs.declared.words.Begins.TheVariants.{Journal}
use Rattle.commands.specs.declared.words.Keeping.{Keeping}

-- A run that served a durable room to this end, and what a stop left of its journal: some bytes.
pub record KeptRun : Type 0 where
  pub keeping : Keeping
  pub end : KeepEnd
  pub ends : Ends
  pub was : WasKeptTo keeping end ends
  pub left : List ℕ
  pub stopped : IsLeft ends.output.before ends.output.after left
  pub some : left ≢ []

-- what was made of what the links told: nothing where nobody listened
abbrev pub account_of : {limits : RoomLimits} {head : Heading} {port : ℕ} {room new : RoomState}
    {links links_after : LinksEnd} {journal journal_after : SinkEnd} {end : KeepEnd}
    → (IsUnopened head room new links links_after journal journal_after end)
    ⊎ (IsKept limits head port room new links links_after journal journal_after end) → Account
account_of (inl unopened) = record { rounds = []; last = untouched None }
account_of (inr kept) = kept.account

-- the run as a link of a chain: what it began with, and what was made of what its links told
abbrev pub link_of : KeptRun → Run
link_of run = record {
  head = run.was.begun.head;
  stored = run.was.begun.stored;
  account = account_of run.was.kept;
}

-- what a run began with
abbrev pub begun_of : KeptRun → Recovered
begun_of run = record { head = run.was.begun.head; elements = run.was.begun.stored }

-- Each run was asked to resume from a journal: the first one from these bytes, each other one from
-- what was left of the one before it. And the last bytes were left of the last one.
abbrev pub AreResumed : List ℕ → List KeptRun → List ℕ → Type 0
AreResumed bytes [] last = last ≡ bytes
AreResumed bytes (run ∷ runs) last =
    (run.keeping.begins ≡ Journal) × (run.was.bytes ≡ bytes) × AreResumed run.left runs last

-- Over any runs, of which each but the first was resumed from what a stop left of the one before,
-- nothing is lost that was kept in any of them: whatever the first one began with, scenes or a
-- journal, and each update of which a text was tried in any run. What is recovered of what was left
-- of the last one has it, or one of its id that beats it.
abbrev pub NothingKeptIsLost : Type 0
NothingKeptIsLost =
    (first : KeptRun) (runs : List KeptRun) (last : List ℕ) (found : Recovered) (e : ElementValue)
    → AreResumed first.left runs last → ¬ HasNoRecord last → IsRecoveredAs last (Ok found)
    → Contains (kept_in (begun_of first) (map link_of (first ∷ runs))) e → IsKeptIn found.elements e
