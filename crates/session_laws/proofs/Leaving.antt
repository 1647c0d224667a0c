-- An undo and a redo leave what others changed.
use Rattle.std.proofs.Common.{◌≡◌, ◌<◌, ℕ, true, false, List, Some, Ok, Contains, inl, inr, refl, sym, ap, ap₂, ◌∙◌, subst}
use Rattle.std.proofs.lemmas.Bool.{cases_Bool, both_ways}
use Rattle.std.proofs.lemmas.Option.{same_Some}
use Rattle.frac_keys.specs.Rising.{are_rising}
use Rattle.elem.specs.ElementValue.{ElementValue}
use Rattle.elem.specs.Said.{AreElements}
use Rattle.elem.specs.Stamp.{stamped}
use Rattle.elem_store.specs.Updates.{element_of, ids_of}
use Rattle.delta.specs.Pairs.{Pair}
use Rattle.delta.specs.Placed.{item_of}
use Rattle.delta.proofs.CallerLemmas.{scalars-same-but-stamp, item-member}
use Rattle.history.specs.Stacks.{other}
use Rattle.history.specs.declared.planned.Direction.{Direction}
use Rattle.history.specs.declared.planned.Direction.TheVariants as directions
use Rattle.undo_model.specs.Carrying.{taken_all}
use Rattle.undo_model.specs.Differing.{differ}
use Rattle.undo_model.specs.Entries.{IsEntry, AreEntries, IsGiven}
use Rattle.undo_model.specs.Leaving.{Leaves, LeavesOthers, StepLeavesOthers}
use Rattle.undo_model.specs.Steps.{Turn, given, step}
use Rattle.undo_model.specs.Undoing.{undone}
use Rattle.undo_model.proofs.CallerLemmas.{differ-false, found-is, undone-leaves, given-each, given-all, given-rise, given-taken, step-turn, sought-entries, undone-stamp, undone-element, restamped}
use Rattle.replica.specs.State.{State, captured, entries, turn_on, after_turn_of, after_turn}
use Rattle.replica.proofs.CallerLemmas.{taken-at, taken-else}
use Rattle.session_text.specs.Facts.{IsSession}
use Rattle.session_text.specs.declared.session.Session.{Session}
use Rattle.session.specs.Worlds.{state_at, world_after}
use Rattle.session_laws.proofs.SoundStates.{IsKept, captured-kept}
use Rattle.session_laws.proofs.SoundWorlds.{seat-kept, world-kept}

-- the stamp plays no part in what is left
stamped-leaves : (pair : Pair) (now new : ElementValue) (time nonce : ℕ) → Leaves pair now new
    → Leaves pair now (stamped time nonce new)
stamped-leaves pair now new time nonce leaves = record {
  kind = leaves.kind;
  scalars = λ name e. scalars-same-but-stamp (stamped time nonce new) new refl name ∙ leaves.scalars name e;
  groups = leaves.groups;
  group_items = leaves.group_items;
  bound = leaves.bound;
  bound_items = leaves.bound_items;
}

module _ (stored : List ElementValue) (are : AreElements stored) (rise : are_rising (ids_of stored) ≡ true)
    (time nonce : ℕ) (pairs : List Pair) (entry : IsEntry pairs) where
  abbrev news : List ElementValue
  news = taken_all (given stored time nonce pairs) stored

  given-id : (e : ElementValue) (own : IsGiven stored time nonce pairs e) → e.id ≡ own.pair.after.id
  given-id e own =
      ap (λ (x : ElementValue). x.id) own.is ∙ (undone-stamp own.pair own.now).id
      ∙ (found-is stored own.pair.after.id own.now are own.found).1

  -- one pair has an id
  one-pair : (pair other : Pair) → Contains pairs pair → Contains pairs other → pair.after.id ≡ other.after.id
      → pair ≡ other
  one-pair pair other c d same =
      same_Some pair other
      (sym (item-member (λ (p : Pair). p.after.id) pairs pair entry.ordered c)
      ∙ ap (item_of (λ (p : Pair). p.after.id) pairs) same
      ∙ item-member (λ (p : Pair). p.after.id) pairs other entry.ordered d)

  module _ (pair : Pair) (now : ElementValue) (c : Contains pairs pair) (found : element_of stored pair.after.id
      ≡ Some now) where
    leaves : Leaves pair now (undone pair now)
    leaves =
        let own = entry.each pair c in
        let is = (found-is stored pair.after.id now are found).0 in
        undone-leaves pair now own.0 own.1.kind is.0 is.1

    -- it isn't given where it doesn't differ
    not-given : differ now (undone pair now) ≡ false → (e : ElementValue) → Contains (given stored time nonce pairs) e
        → e.id ≡ pair.after.id → ⊥
    not-given f e d same =
        let own = given-each stored time nonce pairs e d in
        let id : own.pair.after.id ≡ pair.after.id = sym (given-id e own) ∙ same in
        let one = one-pair own.pair pair own.among c id in
        let here : own.now ≡ now = same_Some own.now now (sym own.found ∙ ap (element_of stored) id ∙ found) in
        both_ways (differ now (undone pair now)) f (ap₂ (λ (x : ElementValue) (p : Pair). differ x (undone p x))
        (sym here) (sym one) ∙ own.differs)

    left : (next : ElementValue) × (element_of news pair.after.id ≡ Some next) × Leaves pair now next
    left = elim (cases_Bool (differ now (undone pair now))) [
      | inl t ↦
          let next : ElementValue = stamped time nonce (undone pair now) in
          let gives : IsGiven stored time nonce pairs next =
          record { pair = pair; now = now; among = c; found = found; differs = t; is = refl } in
          let at = taken-at stored (given stored time nonce pairs) next rise
          (given-rise stored time nonce are pairs entry.ordered) (given-taken stored time nonce are pairs)
          (given-all stored time nonce pairs next gives) in (
            next,
            ap (element_of news) (sym (given-id next gives))
                ∙ at,
            stamped-leaves pair now (undone pair now) time nonce leaves,
          )
      | inr f ↦
          let own = entry.each pair c in
          let is = (found-is stored pair.after.id now are found).0 in
          let made = undone-element pair now own.0 own.1.kind is.0 is.1 in
          let stamp = undone-stamp pair now in
          let same : undone pair now ≡ now =
          restamped (undone pair now) now (sym (differ-false now (undone pair now) is.0 is.1 made.0 made.1 f))
          stamp.version stamp.nonce stamp.updated in (
            now,
            taken-else stored (given stored time nonce pairs) pair.after.id rise (not-given f)
                ∙ found,
            subst (Leaves pair now) same leaves,
          )
    ]

  leaves-others : LeavesOthers pairs stored news
  leaves-others = record {
    apart = λ id none.
        taken-else stored (given stored time nonce pairs) id rise (λ e c same.
        let own = given-each stored time nonce pairs e c in none own.pair own.among (sym (given-id e own) ∙ same));
    each = left;
  }

-- ---- a step
step-leaves : (stored : List ElementValue) (time nonce : ℕ) (from to : List (List Pair)) (turn : Turn)
    → AreElements stored → are_rising (ids_of stored) ≡ true → AreEntries from → AreEntries to
    → step stored time nonce from to ≡ Some (Ok turn) → StepLeavesOthers from to stored (taken_all turn.given stored)
step-leaves stored time nonce from to turn are rise entries others is =
    let t = step-turn stored time nonce from to turn is in
    let own = sought-entries stored from to t.seen entries others t.is_sought in
    record {
      seen = t.seen;
      is_sought = t.is_sought;
      leaves =
          subst (λ (u : Turn). LeavesOthers t.seen.entry stored (taken_all u.given stored)) (sym t.is)
          (leaves-others stored are rise time nonce t.seen.entry own.entry);
    }

side-entries : (direction : Direction) (s : State) → IsKept s → AreEntries (entries direction s)
side-entries directions.Undo s kept = kept.undo_entries
side-entries directions.Redo s kept = kept.redo_entries

module _ (session : Session) (is : IsSession session) (count at : ℕ) (among : at < session.replicas) (time nonce : ℕ)
    (turn : Turn) where
  abbrev s : State
  s = state_at (world_after session count) at

  kept : IsKept s
  kept = (seat-kept session.replicas (world_after session count) (world-kept session is count) at among).state

  pub turn-leaves : (direction : Direction) → turn_on direction time nonce s ≡ Some (Ok turn)
      → StepLeavesOthers (entries direction (captured s)) (entries (other direction) (captured s)) s.stored
      (after_turn direction time nonce s).stored
  turn-leaves direction found =
      let was = captured-kept s kept in
      subst (λ (t : State). StepLeavesOthers (entries direction (captured s)) (entries (other direction) (captured s))
      s.stored t.stored) (sym (ap (λ o. after_turn_of direction o s) found))
      (step-leaves s.stored time nonce (entries direction (captured s)) (entries (other direction) (captured s)) turn
      kept.stored_elements kept.stored_rise (side-entries direction (captured s) was)
      (side-entries (other direction) (captured s) was) found)
