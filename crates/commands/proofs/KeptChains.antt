-- Runs of durable rooms, each resumed from what was left of the one before, are a chain.
use Rattle.std.proofs.Common.{◌≡◌, ◌≢◌, ◌⊎◌, inl, inr, ℕ, List, [], ◌∷◌, map, Result, Ok, refl, sym, ap, subst, ◌∙◌}
use Rattle.room_disk.specs.Chains.{AreChained, IsFoundOf}
use Rattle.room_disk.specs.Keeping.{IsKept, IsStopAnswer, IsUnopened, messages_heard, messages_told}
use Rattle.room_disk.specs.Recovering.{HasNoLine, HasNoRecord, IsRecoveredAs, Recovered}
use Rattle.room_disk.specs.Resuming.{resumed}
use Rattle.room_disk.specs.declared.fault.KeepFault.{KeepFault}
use Rattle.commands.specs.Keeping.{BeginsWith}
use Rattle.commands.specs.KeptRuns.{AreResumed, KeptRun, account_of, begun_of, link_of}
use Rattle.commands.specs.Serving.{Begun, room_of}
use Rattle.commands.specs.declared.words.Begins.{Begins}
use Rattle.commands.specs.declared.words.Begins.TheVariants.{Journal}
use Rattle.commands.proofs.BegunRooms.{IsSoundStore, ResumeLaws, resumed-same}

-- what room_disk says of what is recovered
abbrev pub FoundOnce : Type 0
FoundOnce =
    (bytes : List ℕ) (found : Recovered) (answer : Result Recovered KeepFault) → IsRecoveredAs bytes (Ok found)
    → IsRecoveredAs bytes answer → answer ≡ Ok found

abbrev answered : Recovered → Result Recovered KeepFault
answered found = Ok found

inside : (a b : Recovered) → answered a ≡ answered b → a ≡ b
inside a b same = cc

-- what a run may be resumed from, and what is recovered of that
record HoldsRecord (bytes : List ℕ) (found : Recovered) : Type 0 where
  recorded : ¬ HasNoRecord bytes
  read : IsRecoveredAs bytes (Ok found)

-- what a run was resumed from
record CameFrom (bytes : List ℕ) (begun : Begun) : Type 0 where
  found : Recovered
  holds : HoldsRecord bytes found
  is : begun ≡ record { head = found.head; stored = resumed found.elements }

came-from : (run : KeptRun) (bytes : List ℕ) → run.keeping.begins ≡ Journal → run.was.bytes ≡ bytes
    → CameFrom bytes run.was.begun
came-from run bytes asked same =
    let (found, recorded, read, is) = subst (λ (begins : Begins). BeginsWith begins bytes run.was.begun) asked
    (subst (λ (b : List ℕ). BeginsWith run.keeping.begins b run.was.begun) same run.was.begins) in
    record { found = found; holds = record { recorded = recorded; read = read }; is = is }

-- what is recovered of what was left of a run is that of a link of a chain
no-line : (left : List ℕ) → left ≢ [] → ¬ HasNoRecord left → HasNoLine left → ⊥
no-line left some recorded (inl none) = some none
no-line left some recorded (inr none) = recorded none

found-of : (run : KeptRun) (found : Recovered) → HoldsRecord run.left found → IsFoundOf (link_of run) found
found-of run found holds = by run.was.kept
  where
    by : (kept : (IsUnopened run.was.begun.head (room_of run.was.begun.stored) run.was.last run.ends.links.before
        run.ends.links.after run.ends.output.before run.ends.output.after run.end)
        ⊎ (IsKept run.keeping.limits run.was.begun.head run.keeping.port (room_of run.was.begun.stored) run.was.last
        run.ends.links.before run.ends.links.after run.ends.output.before run.ends.output.after run.end))
        → IsStopAnswer run.was.begun.head run.was.begun.stored (messages_heard (account_of kept))
        (messages_told (account_of kept)) (Ok found)
    by (inl unopened) = elim (unopened.stops run.left (Ok found) run.stopped holds.read) [
      | inl nothing ↦ absurd (no-line run.left run.some holds.recorded nothing.0)
      | inr stop ↦ stop
    ]
    by (inr kept) = kept.stops run.left (Ok found) run.stopped holds.read

-- what is recovered behind some runs, where something is behind the last one
behind : (runs : List KeptRun) (bytes last : List ℕ) (found : Recovered) → AreResumed bytes runs last
    → HoldsRecord last found → (first : Recovered) × HoldsRecord bytes first
behind [] bytes last found are holds = (found, subst (λ (b : List ℕ). HoldsRecord b found) are holds)
behind (run ∷ runs) bytes last found are holds =
    let from = came-from run bytes are.0 are.1 in (from.found, from.holds)

module _ (once : FoundOnce) where
  found-once : (bytes : List ℕ) (found other : Recovered) → HoldsRecord bytes found → HoldsRecord bytes other → other ≡ found
  found-once bytes found other one two = inside other found (once bytes found (Ok other) one.read two.read)

  links : (runs : List KeptRun) (bytes last : List ℕ) (first found : Recovered) → HoldsRecord bytes first
      → AreResumed bytes runs last → HoldsRecord last found → AreChained first (map link_of runs) found
  links [] bytes last first found from are holds =
      found-once bytes first found from (subst (λ (b : List ℕ). HoldsRecord b found) are holds)
  links (run ∷ runs) bytes last first found from are holds =
      let came = came-from run bytes are.0 are.1 in
      let same : came.found ≡ first = found-once bytes first came.found from came.holds in
      let next = behind runs run.left last found are.2 holds in (
        record {
          head = ap (λ (b : Begun). b.head) came.is ∙ ap (λ (f : Recovered). f.head) same;
          stored = ap (λ (b : Begun). b.stored) came.is ∙ ap (λ (f : Recovered). resumed f.elements) same;
        },
        (next.0, found-of run next.0 next.1, links runs run.left last next.0 found next.1 are.2 holds),
      )

  pub runs-chained : ResumeLaws → (first : KeptRun) (runs : List KeptRun) (last : List ℕ) (found : Recovered)
      → IsSoundStore first.was.begun.stored → AreResumed first.left runs last → ¬ HasNoRecord last
      → IsRecoveredAs last (Ok found)
      → AreChained (begun_of first) (map link_of (first ∷ runs)) found
  runs-chained laws first runs last found sound are recorded read =
      let holds : HoldsRecord last found = record { recorded = recorded; read = read } in
      let next = behind runs first.left last found are holds in (
        record { head = refl; stored = sym (resumed-same laws first.was.begun.stored sound.keys) },
        (next.0, found-of first next.0 next.1, links runs first.left last next.0 found next.1 are holds),
      )
