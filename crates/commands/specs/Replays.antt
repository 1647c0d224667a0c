-- What holds of the replicas of every session: the headline of the program, part by part. This
-- project's own; what is stored is Excalidraw's reconcile.
use Rattle.std.specs.Prelude.{◌≡◌, ◌≤◌, ◌<◌, ◌+◌, ℕ, List, ◌++◌, Some, Ok, Contains, drop, length, take}
use Rattle.std.specs.List.{AllByRecursion}
use Rattle.board_ends.specs.Ends.{SinkEnd, SourceEnd, Took}
use Rattle.elem_store.specs.Updates.{AreBest, HaveSameUpdates}
use Rattle.undo_model.specs.Leaving.{StepLeavesOthers}
use Rattle.undo_model.specs.Steps.{Turn}
use Rattle.replica.specs.Back.{HasNothingPending, IsAs, IsCaptured, IsFound}
use Rattle.replica.specs.State.{after_redo, after_undo, captured, redo_on, undo_on}
use Rattle.scene_file.specs.Scenes.{scene_text}
use Rattle.session.specs.Reports.{shown_at}
use Rattle.session.specs.Worlds.{Seat, after_events, head_of, last_world, state_at, world_after}
use Rattle.session_laws.specs.Told.{HasNoHolds, IsToldAll}
use Rattle.session_laws.specs.Turning.{AreChangesAt, AreRedosAt, AreUndosAt, IsLaterAt}
use Rattle.session_text.specs.Sessions.{IsSessionOf}
use Rattle.session_text.specs.declared.event.Event.{Event}
use Rattle.session_text.specs.declared.session.Session.{Session}
use Rattle.view.specs.Settled.{AreSettled}
use Rattle.index_repair.specs.Keyed.{HaveRisingKeys}
use Rattle.commands.specs.Answers.{IsReplayed}
use Rattle.commands.specs.Ends.{Span, WasRead, limit}

-- ---- the laws on one session, each of them after any number of its events
-- Each replica stores, per id, the one update that it took and that no other one of the id beats,
-- and nothing else.
abbrev pub StoresTheBest : Session → Type 0
StoresTheBest session =
    (count : ℕ) (s : Seat) → Contains (world_after session count).seats s
    → AreBest s.taken s.state.stored

-- Two replicas print one scene, byte for byte.
abbrev pub PrintOneScene : Session → Seat → Seat → Type 0
PrintOneScene session s other =
    scene_text (head_of session) (shown_at s) ≡ scene_text (head_of session) (shown_at other)

-- Two replicas that took the same updates, in whatever order, grouping and repetition, do.
abbrev pub HasConverged : Session → Type 0
HasConverged session =
    (count : ℕ) (s other : Seat)
    → Contains (world_after session count).seats s
    → Contains (world_after session count).seats other
    → HaveSameUpdates s.taken other.taken → PrintOneScene session s other

-- Two replicas took the same updates, and print one scene, where no event holds updates off, and
-- the last events are deliveries that tell each replica of every message.
abbrev pub HasToldAll : Session → Type 0
HasToldAll session =
    HasNoHolds session → IsToldAll session
    → (s other : Seat)
    → Contains (last_world session).seats s → Contains (last_world session).seats other
    → HaveSameUpdates s.taken other.taken × PrintOneScene session s other

-- In what a replica prints the indices rise strictly, and an arrow names an element exactly if that
-- element lists it; so do texts and their containers, and frames and groups are settled.
abbrev pub PrintsAgreeing : Session → Type 0
PrintsAgreeing session =
    (count : ℕ) (s : Seat) → Contains (world_after session count).seats s
    → HaveRisingKeys (shown_at s) × AreSettled (shown_at s)

-- A replica on which nothing is pending makes changes, and as many undos follow: all is as it was
-- before, but for versions, nonces and timestamps, whatever keeps away from it meanwhile. (Nothing
-- is pending after a change, so it is so after each of the undos: as before as many of the last
-- changes.)
abbrev pub BringsBack : Session → Type 0
BringsBack session =
    (count at n : ℕ) (changes undos rest : List Event)
    → drop count session.events ≡ changes ++ undos ++ rest → at < session.replicas
    → HasNothingPending (state_at (world_after session count) at)
    → AreChangesAt at changes (world_after session count) n
    → AreUndosAt at undos (after_events changes (world_after session count)) n
    → let w = after_events changes (world_after session count) in
    IsAs (state_at (world_after session count) at) (state_at (after_events undos w) at)

-- While changes are left, a further undo finds an entry, and is refused for a full version alone.
abbrev pub FindsUndos : Session → Type 0
FindsUndos session =
    (count at n j : ℕ) (changes undos rest : List Event)
    → drop count session.events ≡ changes ++ undos ++ rest → at < session.replicas
    → HasNothingPending (state_at (world_after session count) at)
    → AreChangesAt at changes (world_after session count) n
    → AreUndosAt at undos (after_events changes (world_after session count)) j → j < n
    → (time nonce : ℕ)
    → let s = state_at (after_events undos (after_events changes (world_after session count))) at in
    IsFound s.stored (undo_on time nonce s)

-- Nothing is pending at a replica at which no change was captured later, whatever else happened:
-- all is captured.
abbrev pub HasNonePending : Session → Type 0
HasNonePending session =
    (count at : ℕ) → at < session.replicas
    → AllByRecursion (λ (event : Event). IsLaterAt at event → ⊥) (take count session.events)
    → let s = state_at (world_after session count) at in HasNothingPending s × IsCaptured s

-- After changes nothing is pending: all is captured.
abbrev pub Captures : Session → Type 0
Captures session =
    (count at n : ℕ) (changes rest : List Event)
    → drop count session.events ≡ changes ++ rest → at < session.replicas
    → AreChangesAt at changes (world_after session count) n → 1 ≤ n
    → let s = state_at (after_events changes (world_after session count)) at in
    HasNothingPending s × IsCaptured s

-- Changes, some and then others, are undone, all of them, and as many redos follow as there were
-- first ones: all is as it was after these, but for versions, nonces and timestamps.
abbrev pub Repeats : Session → Type 0
Repeats session =
    (count at r l : ℕ) (again others undos redos rest : List Event)
    → drop count session.events ≡ again ++ others ++ undos ++ redos ++ rest → at < session.replicas
    → HasNothingPending (state_at (world_after session count) at)
    → AreChangesAt at again (world_after session count) r
    → let w = after_events again (world_after session count) in
    AreChangesAt at others w l
    → AreUndosAt at undos (after_events others w) (r + l)
    → AreRedosAt at redos (after_events undos (after_events others w)) r
    → IsAs (state_at w at) (state_at
    (after_events redos (after_events undos (after_events others w))) at)

-- While undos are left, a further redo finds an entry, and is refused for a full version alone.
abbrev pub FindsRedos : Session → Type 0
FindsRedos session =
    (count at n j k : ℕ) (changes undos redos rest : List Event)
    → drop count session.events ≡ changes ++ undos ++ redos ++ rest → at < session.replicas
    → HasNothingPending (state_at (world_after session count) at)
    → AreChangesAt at changes (world_after session count) n
    → let w = after_events changes (world_after session count) in
    AreUndosAt at undos w j
    → AreRedosAt at redos (after_events undos w) k → j ≤ n → k < j
    → (time nonce : ℕ)
    → let s = state_at (after_events redos (after_events undos w)) at in
    IsFound s.stored (redo_on time nonce s)

-- Whatever is pending and whatever others did, an undo and a redo leave what others changed: each
-- element of which the entry has no part; each member outside the stamp that its part doesn't name;
-- and of the groups and the listing all items but those that the part gained or lost.
abbrev pub LeavesWhatOthersChanged : Session → Type 0
LeavesWhatOthersChanged session =
    (count at time nonce : ℕ) (turn : Turn) → at < session.replicas
    → let s = state_at (world_after session count) at in
    let undo = (captured s).undo in
    let redo = (captured s).redo in
    (undo_on time nonce s ≡ Some (Ok turn)
    → StepLeavesOthers undo redo s.stored (after_undo time nonce s).stored)
    × (redo_on time nonce s ≡ Some (Ok turn)
    → StepLeavesOthers redo undo s.stored (after_redo time nonce s).stored)

-- ---- of all sessions
-- A law holds of each session that an input is.
abbrev pub OfAll : (Session → Type 0) → Type 0
OfAll Law = (bytes : List ℕ) (session : Session) → IsSessionOf bytes session → Law session

-- However updates are grouped, reordered, repeated or lost: after every event of every session each
-- of these laws holds.
abbrev pub ReplicasStoreTheBest : Type 0
ReplicasStoreTheBest = OfAll StoresTheBest

abbrev pub ReplicasConverge : Type 0
ReplicasConverge = OfAll HasConverged

abbrev pub ToldAllStoreTheSame : Type 0
ToldAllStoreTheSame = OfAll HasToldAll

abbrev pub PrintedScenesAgree : Type 0
PrintedScenesAgree = OfAll PrintsAgreeing

abbrev pub UndoBringsBack : Type 0
UndoBringsBack = OfAll BringsBack

abbrev pub UndoIsFound : Type 0
UndoIsFound = OfAll FindsUndos

abbrev pub NothingIsPending : Type 0
NothingIsPending = OfAll HasNonePending

abbrev pub ChangesAreCaptured : Type 0
ChangesAreCaptured = OfAll Captures

abbrev pub RedoRepeats : Type 0
RedoRepeats = OfAll Repeats

abbrev pub RedoIsFound : Type 0
RedoIsFound = OfAll FindsRedos

abbrev pub OthersChangesStay : Type 0
OthersChangesStay = OfAll LeavesWhatOthersChanged

-- ---- of a run
-- All of these laws hold of a session, after each of its events, and so of its last world, which is
-- that after all of them.
pub record HasLaws (session : Session) : Type 0 where
  pub last : world_after session (length session.events) ≡ last_world session
  pub replicas_store_the_best : StoresTheBest session
  pub replicas_converge : HasConverged session
  pub told_all_store_the_same : HasToldAll session
  pub printed_scenes_agree : PrintsAgreeing session
  pub undo_brings_back : BringsBack session
  pub undo_is_found : FindsUndos session
  pub nothing_is_pending : HasNonePending session
  pub changes_are_captured : Captures session
  pub redo_repeats : Repeats session
  pub redo_is_found : FindsRedos session
  pub others_changes_stay : LeavesWhatOthersChanged session

-- The input, read to its end, is a session of which all these laws hold, and the text of its report
-- was written.
pub record WroteLawfulReport (input : Span SourceEnd) (output : Span SinkEnd) : Type 0 where
  pub bytes : List ℕ
  pub read : WasRead limit input bytes
  pub text : List ℕ
  pub replayed : IsReplayed bytes text
  pub laws : HasLaws replayed.session
  pub took : Took output.before output.after text
