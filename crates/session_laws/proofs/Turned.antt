-- Undo and redo over the events of a session: what was comes back, and comes again.
use Rattle.std.proofs.Common.{◌≡◌, ◌≤◌, ◌<◌, ◌+◌, ◌-◌, ℕ, List, [], ◌∷◌, ◌++◌, length, take, drop, map, refl, sym, ap, ◌∙◌, subst, length-append, arith}
use Rattle.std.specs.List.{AllByRecursion}
use Rattle.std.proofs.Math.Seq.{take-append_seam}
use Rattle.elem.specs.ElementValue.{ElementValue}
use Rattle.elem.specs.Order.{unstamped}
use Rattle.undo_model.specs.Differing.{pending}
use Rattle.history.specs.declared.planned.Direction.TheVariants as directions
use Rattle.replica.specs.Back.{IsAs, HasNothingPending, IsCaptured, IsFound, changed, changed_all, AreChanges, undone_all, redone_all, AreUndos, AreRedos}
use Rattle.replica.specs.Sound.{IsSoundState}
use Rattle.replica.specs.State.{State, captured, stored_with, undo_on, redo_on}
use Rattle.replica.proofs.CallerLemmas.{captured-none, undone-all, undo-is_found, redone-is, redo-is_found, step-found, noted-stored}
use Rattle.session_text.specs.Facts.{IsSession}
use Rattle.session_text.specs.declared.event.Event.{Event}
use Rattle.session_text.specs.declared.session.Session.{Session}
use Rattle.session.specs.Worlds.{World, state_at, after_events, world_after}
use Rattle.session_laws.specs.Turning.{AreChangesAt, AreUndosAt, AreRedosAt}
use Rattle.session_laws.proofs.SoundStates.{kept-sound}
use Rattle.session_laws.proofs.SoundWorlds.{IsKeptWorld, IsKeptEvent, seat-kept, events-kept, all-parts, world-kept, rest-kept}
use Rattle.session_laws.proofs.AtReplica.{unheld, unheld-turn_on, changes-lead, turns-lead}

-- ---- held ids play no part in what holds of a state
unheld-sound : (s : State) → IsSoundState s → IsSoundState (unheld s)
unheld-sound s sound = record {
  stored_rise = sound.stored_rise;
  snapshot_rise = sound.snapshot_rise;
  stored_elements = sound.stored_elements;
  snapshot_elements = sound.snapshot_elements;
  alike = sound.alike;
  undo_ids = sound.undo_ids;
  redo_ids = sound.redo_ids;
}

held-as : (was now : State) → IsAs (unheld was) (unheld now) → IsAs was now
held-as was now is = record { agrees = is.agrees; looks = is.looks }

-- ---- several changes, one part after another
changed-append : (givens more : List (List ElementValue)) (s : State)
    → changed_all (givens ++ more) s ≡ changed_all more (changed_all givens s)
changed-append [] more s = refl
changed-append (given ∷ givens) more s = changed-append givens more (changed given s)

changes-append : (givens more : List (List ElementValue)) (s : State) → AreChanges givens s
    → AreChanges more (changed_all givens s) → AreChanges (givens ++ more) s
changes-append [] more s are are' = are'
changes-append (given ∷ givens) more s are are' = (are.0, changes-append givens more (changed given s) are.1 are')

-- ---- after a change nothing is pending

changed-captured : (given : List ElementValue) (s : State) → IsCaptured (changed given s)
changed-captured given s =
    let t : State = stored_with given s in
    ap (map unstamped) (sym (noted-stored (pending t.snapshot t.stored) t))

all-captured : (givens : List (List ElementValue)) (s : State) → 1 ≤ length givens
    → IsCaptured (changed_all givens s)
all-captured [] s some = absurd (omega arith)
all-captured (given ∷ []) s some = changed-captured given s
all-captured (given ∷ other ∷ more) s some = all-captured (other ∷ more) (changed given s) (omega arith)

-- ---- from any world of a session on
module _ (replicas : ℕ) (few : replicas ≤ 64) (w : World) (kept : IsKeptWorld replicas w) (at : ℕ)
    (among : at < replicas) where
  abbrev after : List Event → World
  after events = after_events events w

  captured-then : (changes : List Event) (n : ℕ) → AllByRecursion (IsKeptEvent replicas) changes
      → AreChangesAt at changes w n → 1 ≤ n
      → IsCaptured (state_at (after changes) at) × HasNothingPending (state_at (after changes) at)
  captured-then changes n all are some =
      let lead = changes-lead replicas few at among changes w n all kept are in
      let own = subst IsCaptured (sym lead.comes)
      (all-captured lead.givens (unheld (state_at w at)) (omega (arith, lead.many))) in (
        own,
        captured-none (state_at (after changes) at)
            (seat-kept replicas (after changes) (events-kept replicas few changes w all kept) at
            among).state.stored_rise
            own,
      )

  module _ (still : HasNothingPending (state_at w at)) where
    sound : IsSoundState (unheld (state_at w at))
    sound = unheld-sound (state_at w at) (kept-sound (state_at w at) (seat-kept replicas w kept at among).state)

    back-then : (changes undos : List Event) (n : ℕ) → AllByRecursion (IsKeptEvent replicas) changes
        → AllByRecursion (IsKeptEvent replicas) undos
        → AreChangesAt at changes w n → AreUndosAt at undos (after changes) n
        → IsAs (state_at w at) (state_at (after_events undos (after changes)) at)
    back-then changes undos n all all' are are' =
        let s : State = unheld (state_at w at) in
        let next : World = after changes in
        let lead = changes-lead replicas few at among changes w n all kept are in
        let lead' = turns-lead replicas few at among directions.Undo undos next n all'
        (events-kept replicas few changes w all kept) are' in
        let done : AreUndos lead'.calls (changed_all lead.givens s) =
        subst (AreUndos lead'.calls) lead.comes lead'.done in
        let comes : unheld (state_at (after_events undos next) at)
        ≡ undone_all lead'.calls (changed_all lead.givens s) =
        lead'.comes ∙ ap (undone_all lead'.calls) lead.comes in
        let many = lead.many in
        let many' = lead'.many in
        held-as (state_at w at) (state_at (after_events undos next) at)
        (subst (IsAs s) (sym comes) (undone-all s lead.givens sound still lead.changes lead'.calls (omega arith) done
        (omega arith)))

    -- while changes are left, undo finds an entry
    undo-then : (changes undos : List Event) (n j : ℕ) → AllByRecursion (IsKeptEvent replicas) changes
        → AllByRecursion (IsKeptEvent replicas) undos
        → AreChangesAt at changes w n → AreUndosAt at undos (after changes) j → j < n → (time nonce : ℕ)
        → IsFound (state_at (after_events undos (after changes)) at).stored
        (undo_on time nonce (state_at (after_events undos (after changes)) at))
    undo-then changes undos n j all all' are are' less time nonce =
        let s : State = unheld (state_at w at) in
        let next : World = after changes in
        let lead = changes-lead replicas few at among changes w n all kept are in
        let lead' = turns-lead replicas few at among directions.Undo undos next j all'
        (events-kept replicas few changes w all kept) are' in
        let done : AreUndos lead'.calls (changed_all lead.givens s) =
        subst (AreUndos lead'.calls) lead.comes lead'.done in
        let comes : unheld (state_at (after_events undos next) at)
        ≡ undone_all lead'.calls (changed_all lead.givens s) =
        lead'.comes ∙ ap (undone_all lead'.calls) lead.comes in
        let many = lead.many in
        let many' = lead'.many in
        let t : State = state_at (after_events undos next) at in
        step-found t.stored time nonce (captured t).undo (captured t).redo (λ none.
        undo-is_found s lead.givens sound still lead.changes lead'.calls (omega arith) done (omega arith) time nonce
        (ap (undo_on time nonce) (sym comes) ∙ unheld-turn_on directions.Undo time nonce t ∙ none))

    -- while undos are left, redo does
    redo-then : (changes undos redos : List Event) (n j k : ℕ) → AllByRecursion (IsKeptEvent replicas) changes
        → AllByRecursion (IsKeptEvent replicas) undos → AllByRecursion (IsKeptEvent replicas) redos
        → AreChangesAt at changes w n → AreUndosAt at undos (after changes) j
        → AreRedosAt at redos (after_events undos (after changes)) k → j ≤ n → k < j
        → (time nonce : ℕ)
        → IsFound (state_at (after_events redos (after_events undos (after changes))) at).stored
        (redo_on time nonce (state_at (after_events redos (after_events undos (after changes))) at))
    redo-then changes undos redos n j k all all-2 all-3 are are-2 are-3 some less time nonce =
        let s : State = unheld (state_at w at) in
        let w-2 : World = after changes in
        let w-3 : World = after_events undos w-2 in
        let kept-2 = events-kept replicas few changes w all kept in
        let kept-3 = events-kept replicas few undos w-2 all-2 kept-2 in
        let lead = changes-lead replicas few at among changes w n all kept are in
        let lead-2 = turns-lead replicas few at among directions.Undo undos w-2 j all-2 kept-2 are-2 in
        let lead-3 = turns-lead replicas few at among directions.Redo redos w-3 k all-3 kept-3 are-3 in
        let undone : AreUndos lead-2.calls (changed_all lead.givens s) =
        subst (AreUndos lead-2.calls) lead.comes lead-2.done in
        let comes-2 : unheld (state_at w-3 at) ≡ undone_all lead-2.calls (changed_all lead.givens s) =
        lead-2.comes ∙ ap (undone_all lead-2.calls) lead.comes in
        let redone : AreRedos lead-3.calls (undone_all lead-2.calls (changed_all lead.givens s)) =
        subst (AreRedos lead-3.calls) comes-2 lead-3.done in
        let comes-3 : unheld (state_at (after_events redos w-3) at)
        ≡ redone_all lead-3.calls (undone_all lead-2.calls (changed_all lead.givens s)) =
        lead-3.comes ∙ ap (redone_all lead-3.calls) comes-2 in
        let many = lead.many in
        let many-2 = lead-2.many in
        let many-3 = lead-3.many in
        let t : State = state_at (after_events redos w-3) at in
        step-found t.stored time nonce (captured t).redo (captured t).undo (λ none.
        redo-is_found s lead.givens sound still lead.changes lead-2.calls (omega arith) undone lead-3.calls
        (omega arith) redone (omega arith) time nonce
        (ap (redo_on time nonce) (sym comes-3) ∙ unheld-turn_on directions.Redo time nonce t ∙ none))

    again-then : (again others undos redos : List Event) (r l : ℕ) → AllByRecursion (IsKeptEvent replicas) again
        → AllByRecursion (IsKeptEvent replicas) others
        → AllByRecursion (IsKeptEvent replicas) undos → AllByRecursion (IsKeptEvent replicas) redos
        → AreChangesAt at again w r → AreChangesAt at others (after again) l
        → AreUndosAt at undos (after_events others (after again)) (r + l)
        → AreRedosAt at redos (after_events undos (after_events others (after again))) r
        → IsAs (state_at (after again) at)
        (state_at (after_events redos (after_events undos (after_events others (after again)))) at)
    again-then again others undos redos r l all all-2 all-3 all-4 are are-2 are-3 are-4 =
        let s : State = unheld (state_at w at) in
        let w-2 : World = after again in
        let w-3 : World = after_events others w-2 in
        let w-4 : World = after_events undos w-3 in
        let kept-2 = events-kept replicas few again w all kept in
        let kept-3 = events-kept replicas few others w-2 all-2 kept-2 in
        let kept-4 = events-kept replicas few undos w-3 all-3 kept-3 in
        let lead = changes-lead replicas few at among again w r all kept are in
        let lead-2 = changes-lead replicas few at among others w-2 l all-2 kept-2 are-2 in
        let lead-3 = turns-lead replicas few at among directions.Undo undos w-3 (r + l) all-3 kept-3 are-3 in
        let lead-4 = turns-lead replicas few at among directions.Redo redos w-4 r all-4 kept-4 are-4 in
        let givens : List (List ElementValue) = lead.givens ++ lead-2.givens in
        let comes-3 : unheld (state_at w-3 at) ≡ changed_all givens s =
        lead-2.comes ∙ ap (changed_all lead-2.givens) lead.comes
        ∙ sym (changed-append lead.givens lead-2.givens s) in
        let changes : AreChanges givens s =
        changes-append lead.givens lead-2.givens s lead.changes
        (subst (AreChanges lead-2.givens) lead.comes lead-2.changes) in
        let undone : AreUndos lead-3.calls (changed_all givens s) =
        subst (AreUndos lead-3.calls) comes-3 lead-3.done in
        let comes-4 : unheld (state_at w-4 at) ≡ undone_all lead-3.calls (changed_all givens s) =
        lead-3.comes ∙ ap (undone_all lead-3.calls) comes-3 in
        let redone : AreRedos lead-4.calls (undone_all lead-3.calls (changed_all givens s)) =
        subst (AreRedos lead-4.calls) comes-4 lead-4.done in
        let comes-5 : unheld (state_at (after_events redos w-4) at)
        ≡ redone_all lead-4.calls (undone_all lead-3.calls (changed_all givens s)) =
        lead-4.comes ∙ ap (redone_all lead-4.calls) comes-4 in
        let many = lead.many in
        let many-2 = lead-2.many in
        let many-3 = lead-3.many in
        let many-4 = lead-4.many in
        let long : length givens ≡ length lead.givens + length lead-2.givens =
        length-append lead.givens lead-2.givens in
        let place : length lead-4.calls + (length givens - length lead-3.calls) ≡ length lead.givens = omega arith in
        let first : take (length lead-4.calls + (length givens - length lead-3.calls)) givens ≡ lead.givens =
        ap (λ (i : ℕ). take i givens) place ∙ take-append_seam lead.givens lead-2.givens in
        let was : changed_all (take (length lead-4.calls + (length givens - length lead-3.calls)) givens) s
        ≡ unheld (state_at w-2 at) =
        ap (λ gs. changed_all gs s) first ∙ sym lead.comes in
        held-as (state_at w-2 at) (state_at (after_events redos w-4) at)
        (subst (λ t. IsAs t (unheld (state_at (after_events redos w-4) at))) was
        (subst (IsAs (changed_all (take (length lead-4.calls + (length givens - length lead-3.calls)) givens) s))
        (sym comes-5)
        (redone-is s givens sound still changes lead-3.calls (omega arith) undone lead-4.calls (omega arith)
        redone)))

-- ---- of a session
module _ (session : Session) (is : IsSession session) (count at : ℕ) (among : at < session.replicas) where
  abbrev now : World
  now = world_after session count

  parts : (events rest : List Event) → drop count session.events ≡ events ++ rest
      → AllByRecursion (IsKeptEvent session.replicas) events × AllByRecursion (IsKeptEvent session.replicas) rest
  parts events rest here =
      all-parts (IsKeptEvent session.replicas) events rest
      (subst (AllByRecursion (IsKeptEvent session.replicas)) here (rest-kept session is count))

  pub captured-after : (changes rest : List Event) (n : ℕ) → drop count session.events ≡ changes ++ rest
      → AreChangesAt at changes now n → 1 ≤ n
      → IsCaptured (state_at (after_events changes now) at)
      × HasNothingPending (state_at (after_events changes now) at)
  captured-after changes rest n here are some =
      captured-then session.replicas is.most now (world-kept session is count) at among changes n
      (parts changes rest here).0 are some

  pub back-after : (changes undos rest : List Event) (n : ℕ) → drop count session.events ≡ changes ++ undos ++ rest
      → HasNothingPending (state_at now at)
      → AreChangesAt at changes now n → AreUndosAt at undos (after_events changes now) n
      → IsAs (state_at now at) (state_at (after_events undos (after_events changes now)) at)
  back-after changes undos rest n here still are are' =
      let both = parts (changes ++ undos) rest here in
      let own = all-parts (IsKeptEvent session.replicas) changes undos both.0 in
      back-then session.replicas is.most now (world-kept session is count) at among still changes undos n own.0 own.1
      are are'

  pub undo-after : (changes undos rest : List Event) (n j : ℕ) → drop count session.events ≡ changes ++ undos ++ rest
      → HasNothingPending (state_at now at)
      → AreChangesAt at changes now n → AreUndosAt at undos (after_events changes now) j → j < n → (time nonce : ℕ)
      → IsFound (state_at (after_events undos (after_events changes now)) at).stored
      (undo_on time nonce (state_at (after_events undos (after_events changes now)) at))
  undo-after changes undos rest n j here still are are' less time nonce =
      let both = parts (changes ++ undos) rest here in
      let own = all-parts (IsKeptEvent session.replicas) changes undos both.0 in
      undo-then session.replicas is.most now (world-kept session is count) at among still changes undos n j own.0
      own.1
      are are' less time nonce

  pub redo-after : (changes undos redos rest : List Event) (n j k : ℕ)
      → drop count session.events ≡ changes ++ undos ++ redos ++ rest → HasNothingPending (state_at now at)
      → AreChangesAt at changes now n → AreUndosAt at undos (after_events changes now) j
      → AreRedosAt at redos (after_events undos (after_events changes now)) k → j ≤ n → k < j
      → (time nonce : ℕ)
      → IsFound (state_at (after_events redos (after_events undos (after_events changes now))) at).stored
      (redo_on time nonce (state_at (after_events redos (after_events undos (after_events changes now))) at))
  redo-after changes undos redos rest n j k here still are are-2 are-3 some less time nonce =
      let three = parts (changes ++ undos ++ redos) rest here in
      let two = all-parts (IsKeptEvent session.replicas) (changes ++ undos) redos three.0 in
      let one = all-parts (IsKeptEvent session.replicas) changes undos two.0 in
      redo-then session.replicas is.most now (world-kept session is count) at among still changes undos redos n j k
      one.0 one.1 two.1 are are-2 are-3 some less time nonce

  pub again-after : (again others undos redos rest : List Event) (r l : ℕ)
      → drop count session.events ≡ again ++ others ++ undos ++ redos ++ rest → HasNothingPending (state_at now at)
      → AreChangesAt at again now r → AreChangesAt at others (after_events again now) l
      → AreUndosAt at undos (after_events others (after_events again now)) (r + l)
      → AreRedosAt at redos (after_events undos (after_events others (after_events again now))) r
      → IsAs (state_at (after_events again now) at)
      (state_at (after_events redos (after_events undos (after_events others (after_events again now)))) at)
  again-after again others undos redos rest r l here still are are-2 are-3 are-4 =
      let four = parts (again ++ others ++ undos ++ redos) rest here in
      let three = all-parts (IsKeptEvent session.replicas) (again ++ others ++ undos) redos four.0 in
      let two = all-parts (IsKeptEvent session.replicas) (again ++ others) undos three.0 in
      let one = all-parts (IsKeptEvent session.replicas) again others two.0 in
      again-then session.replicas is.most now (world-kept session is count) at among still again others undos redos r
      l
      one.0 one.1 two.1 three.1 are are-2 are-3 are-4
