-- What holds of every state of a replica, kept by each call.
use Rattle.std.proofs.Common.{◌≡◌, ◌≤◌, ℕ, true, not, List, [], ◌∷◌, map, Option, Some, None, Result, Ok, Err, IsSome, Contains, inl, inr, refl, sym, ap, ◌∙◌, subst, arith}
use Rattle.std.proofs.lemmas.Bool.{cases_Bool, both_ways, cond-true, cond-false}
use Rattle.std.proofs.lemmas.Option.{none-some, same_Some}
use Rattle.std.proofs.lemmas.List.Elements.{All-nil, All-cons, All-head, All-tail, All-filter}
use Rattle.frac_keys.specs.Rising.{are_rising}
use Rattle.json_text.proofs.CallerLemmas.{Contains-map}
use Rattle.elem.specs.ElementValue.{ElementValue}
use Rattle.elem.specs.Facts.{IsElement, greatest_whole}
use Rattle.elem.specs.Said.{HasValidTexts, AreElements}
use Rattle.elem.specs.Order.{has_id}
use Rattle.elem_store.specs.Updates.{element_of, ids_of, is_taken, takings, is_among}
use Rattle.elem_store.proofs.CallerLemmas.{same_id, of_same, find-Some, filter-Contains, Contains-cases, Contains-head, Contains-cons, member, AreStored-itself, ids-stay}
use Rattle.delta.specs.Pairs.{Pair, pair_with, pairs_from, exchanged}
use Rattle.view.specs.Shown.{live_elements, shown}
use Rattle.reconcile.specs.Ids.{free_elements}
use Rattle.board_commands.specs.declared.command.Capture.{Capture}
use Rattle.board_commands.specs.declared.command.Capture.TheVariants.{Now, Later, Never}
use Rattle.board_commands.specs.declared.command.Command.{Command}
use Rattle.effects.specs.declared.refusal.Refusal.{Refusal}
use Rattle.board_commands.specs.Limits.{IsWithinLimits}
use Rattle.effects.proofs.CallerLemmas.{absent, given-rise, given-taken, given-kind}
use Rattle.history.specs.declared.planned.Direction.{Direction}
use Rattle.history.specs.declared.planned.Direction.TheVariants as directions
use Rattle.undo_model.specs.Carrying.{taken_all}
use Rattle.undo_model.specs.Differing.{same_kind, is_changed, pending}
use Rattle.undo_model.specs.Entries.{IsEntry, AreEntries}
use Rattle.undo_model.specs.Steps.{given, Sought, sought, is_seen, Turn, made, step}
use Rattle.undo_model.proofs.CallerLemmas.{same_kind-true, found-is, pending-entry, given-each, step-turn, step-sound, taken_all-stored, taken_all-elements, taken_all-rising, takings-elements, carried_all-elements, carried_all-rising, undone-stamp}
use Rattle.snapshot.specs.Carried.{AreOfStoredKinds}
use Rattle.snapshot.proofs.CallerLemmas.{kinds-carried_all, kinds-stored}
use Rattle.replica.specs.Sound.{IsSoundState}
use Rattle.replica.specs.State.{State, nothing, noted, captured, stored_with, carried_with, outcome_on, after_given, after_outcome, after_change, after_delivery, turn_on, after_turn_of, after_turn}
use Rattle.replica.proofs.CallerLemmas.{taken-at, taken-else}
use Rattle.board_commands.specs.Written.{IsWrittenCommand}
use Rattle.effect_laws.proofs.CallerLemmas.{board-given}

-- something is stored of the id
abbrev pub IsStoredIn : List ElementValue → List ℕ → Type 0
IsStoredIn stored id = IsSome (element_of stored id)

-- this holds of the id of each pair of a stack's entries
abbrev pub HaveIds : (List ℕ → Type 0) → List (List Pair) → Type 0
HaveIds K stack = (entry : List Pair) (pair : Pair) → Contains stack entry → Contains entry pair → K pair.after.id

-- What holds of every state: what is asked of sound ones; and both stacks are of entries.
pub record IsKept (s : State) : Type 0 where
  pub stored_rise : are_rising (ids_of s.stored) ≡ true
  pub snapshot_rise : are_rising (ids_of s.snapshot) ≡ true
  pub stored_elements : AreElements s.stored
  pub snapshot_elements : AreElements s.snapshot
  pub kinds : AreOfStoredKinds s.snapshot s.stored
  pub undo_entries : AreEntries s.undo
  pub redo_entries : AreEntries s.redo
  pub undo_ids : HaveIds (IsStoredIn s.stored) s.undo
  pub redo_ids : HaveIds (IsStoredIn s.stored) s.redo

pub kept-sound : (s : State) → IsKept s → IsSoundState s
kept-sound s kept = record {
  stored_rise = kept.stored_rise;
  snapshot_rise = kept.snapshot_rise;
  stored_elements = kept.stored_elements;
  snapshot_elements = kept.snapshot_elements;
  alike = λ id e has.
      let own = kept.kinds id e has in
      let is = found-is s.snapshot id e kept.snapshot_elements has in
      let is' = found-is s.stored id own.0 kept.stored_elements own.1 in
      (own.0, own.1, sym (same_kind-true e.kind own.0.kind is.0.0.kind is'.0.0.kind own.2));
  undo_ids = kept.undo_ids;
  redo_ids = kept.redo_ids;
}

no-ids : (K : List ℕ → Type 0) → HaveIds K []
no-ids K entry pair c d = absurd (omega (arith, c.1))

more-ids : (K : List ℕ → Type 0) (entry : List Pair) (stack : List (List Pair))
    → ((pair : Pair) → Contains entry pair → K pair.after.id) → HaveIds K stack → HaveIds K (entry ∷ stack)
more-ids K entry stack own ids other pair c d = elim (Contains-cases entry stack other c) [
  | inl same ↦ own pair (subst (λ (es : List Pair). Contains es pair) (sym same) d)
  | inr later ↦ ids other pair later d
]

pub kept-nothing : IsKept nothing
kept-nothing = record {
  stored_rise = refl;
  snapshot_rise = refl;
  stored_elements = All-nil (λ e. IsElement e × HasValidTexts e);
  snapshot_elements = All-nil (λ e. IsElement e × HasValidTexts e);
  kinds = kinds-stored [];
  undo_entries = All-nil IsEntry;
  redo_entries = All-nil IsEntry;
  undo_ids = no-ids (IsStoredIn []);
  redo_ids = no-ids (IsStoredIn []);
}

-- ---- what is stored stays stored
pub id-stays : (stored list : List ElementValue) (id : List ℕ) → are_rising (ids_of stored) ≡ true
    → IsStoredIn stored id → IsStoredIn (taken_all list stored) id
id-stays stored list id rise some =
    let itself = AreStored-itself stored rise in
    ids-stay stored list stored (taken_all list stored) id itself (taken_all-stored stored stored list itself) some

ids-kept : (stored list : List ElementValue) (stack : List (List Pair)) → are_rising (ids_of stored) ≡ true
    → HaveIds (IsStoredIn stored) stack → HaveIds (IsStoredIn (taken_all list stored)) stack
ids-kept stored list stack rise ids entry pair c d = id-stays stored list pair.after.id rise (ids entry pair c d)

-- ---- a capture
pending-ids : (snapshot stored : List ElementValue) → are_rising (ids_of stored) ≡ true → (pair : Pair)
    → Contains (pending snapshot stored) pair → IsStoredIn stored pair.after.id
pending-ids snapshot stored rise pair c =
    let among = (filter-Contains is_changed (pairs_from (element_of snapshot) stored) pair c).0 in
    let of = Contains-map (λ (e : ElementValue). pair_with (element_of snapshot e.id) e) stored pair among in
    subst (λ (p : Pair). IsStoredIn stored p.after.id) of.2
    (subst IsSome (sym (member None None stored of.0 rise of.1)) refl)

noted-kept : (entry : List Pair) (s : State) → IsKept s → IsEntry entry
    → ((pair : Pair) → Contains entry pair → IsStoredIn s.stored pair.after.id)
    → IsKept (record (noted entry s) { snapshot = s.stored })
noted-kept [] s kept is ids = record {
  stored_rise = kept.stored_rise;
  snapshot_rise = kept.stored_rise;
  stored_elements = kept.stored_elements;
  snapshot_elements = kept.stored_elements;
  kinds = kinds-stored s.stored;
  undo_entries = kept.undo_entries;
  redo_entries = kept.redo_entries;
  undo_ids = kept.undo_ids;
  redo_ids = kept.redo_ids;
}
noted-kept (pair ∷ entry) s kept is ids = record {
  stored_rise = kept.stored_rise;
  snapshot_rise = kept.stored_rise;
  stored_elements = kept.stored_elements;
  snapshot_elements = kept.stored_elements;
  kinds = kinds-stored s.stored;
  undo_entries = All-cons IsEntry (pair ∷ entry) s.undo is kept.undo_entries;
  redo_entries = All-nil IsEntry;
  undo_ids = more-ids (IsStoredIn s.stored) (pair ∷ entry) s.undo ids kept.undo_ids;
  redo_ids = no-ids (IsStoredIn s.stored);
}

pub captured-kept : (s : State) → IsKept s → IsKept (captured s)
captured-kept s kept =
    noted-kept (pending s.snapshot s.stored) s kept (pending-entry s.snapshot s.stored kept.snapshot_elements
    kept.stored_elements kept.stored_rise)
    (pending-ids s.snapshot s.stored kept.stored_rise)

-- ---- a change
-- elements of the stored kinds were taken
given-kinds : (snapshot stored given : List ElementValue) → are_rising (ids_of stored) ≡ true
    → are_rising (ids_of given) ≡ true → ((e : ElementValue) → Contains given e → is_taken stored e ≡ true)
    → ((e old : ElementValue) → Contains given e → element_of stored e.id ≡ Some old → old.kind ≡ e.kind)
    → AreOfStoredKinds snapshot stored → AreOfStoredKinds snapshot (taken_all given stored)
given-kinds snapshot stored given rise ordered taken alike kinds id x has = by (element_of given id) refl
  where
    by : (o : Option ElementValue) → element_of given id ≡ o → (own : ElementValue)
        × (element_of (taken_all given stored) id ≡ Some own) × (same_kind x.kind own.kind ≡ true)
    by (Some e) found =
        let among = find-Some (has_id id) given e found in
        let same : id ≡ e.id = same_id id e among.1 in
        let own = kinds id x has in
        let kind : own.0.kind ≡ e.kind = alike e own.0 among.0 (ap (element_of stored) (sym same) ∙ own.1) in (
          e,
          ap (element_of (taken_all given stored)) same ∙ taken-at stored given e rise ordered taken among.0,
          ap (same_kind x.kind) (sym kind) ∙ own.2,
        )
    by None none =
        let own = kinds id x has in
        let apart : (e : ElementValue) → Contains given e → e.id ≡ id → ⊥ =
        λ e c same. both_ways (has_id id e) (absent id given e none c) (of_same id e (sym same)) in
        (own.0, taken-else stored given id rise apart ∙ own.1, own.2)

-- What a change gives: elements in the order of their ids that are taken and of the stored kinds.
pub record AreGiven (stored given : List ElementValue) : Type 0 where
  pub rise : are_rising (ids_of given) ≡ true
  pub elements : AreElements given
  pub taken : (e : ElementValue) → Contains given e → is_taken stored e ≡ true
  pub kinds : (e old : ElementValue) → Contains given e → element_of stored e.id ≡ Some old → old.kind ≡ e.kind

module _ (s : State) (kept : IsKept s) where
  stored-kept : (given : List ElementValue) → AreGiven s.stored given → IsKept (stored_with given s)
  stored-kept given are = record {
    stored_rise = taken_all-rising s.stored given kept.stored_rise;
    snapshot_rise = kept.snapshot_rise;
    stored_elements = taken_all-elements s.stored given kept.stored_elements are.elements;
    snapshot_elements = kept.snapshot_elements;
    kinds = given-kinds s.snapshot s.stored given kept.stored_rise are.rise are.taken are.kinds kept.kinds;
    undo_entries = kept.undo_entries;
    redo_entries = kept.redo_entries;
    undo_ids = ids-kept s.stored given s.undo kept.stored_rise kept.undo_ids;
    redo_ids = ids-kept s.stored given s.redo kept.stored_rise kept.redo_ids;
  }

  carried-kept : (list : List ElementValue) → AreElements list → IsKept (carried_with list s)
  carried-kept list are = record {
    stored_rise = taken_all-rising s.stored list kept.stored_rise;
    snapshot_rise = carried_all-rising (takings s.stored list) s.snapshot kept.snapshot_rise;
    stored_elements = taken_all-elements s.stored list kept.stored_elements are;
    snapshot_elements = carried_all-elements (takings s.stored list) s.snapshot
        (takings-elements s.stored list kept.stored_elements are) kept.snapshot_elements;
    kinds = kinds-carried_all list s.snapshot s.stored kept.stored_rise kept.kinds;
    undo_entries = kept.undo_entries;
    redo_entries = kept.redo_entries;
    undo_ids = ids-kept s.stored list s.undo kept.stored_rise kept.undo_ids;
    redo_ids = ids-kept s.stored list s.redo kept.stored_rise kept.redo_ids;
  }

  given-kept : (capture : Capture) (given : List ElementValue) → AreGiven s.stored given
      → IsKept (after_given capture given s)
  given-kept Now given are = captured-kept (stored_with given s) (stored-kept given are)
  given-kept Later given are = stored-kept given are
  given-kept Never given are = carried-kept given are.elements

  outcome-kept : (capture : Capture) (o : Result (List ElementValue) Refusal)
      → ((given : List ElementValue) → o ≡ Ok given → AreGiven s.stored given) → IsKept (after_outcome capture o s)
  outcome-kept capture (Ok given) are = given-kept capture given (are given refl)
  outcome-kept capture (Err refusal) are = kept

  -- what a command of a user gives
  pub command-given : (command : Command) (time nonce : ℕ) (given : List ElementValue) → IsWithinLimits command
      → IsWrittenCommand command → time ≤ greatest_whole → nonce ≤ greatest_whole
      → outcome_on command time nonce s ≡ Ok given → AreGiven s.stored given
  command-given command time nonce given limits written early small told = record {
    rise = given-rise s.stored (shown (live_elements s.stored)) command time nonce given told kept.stored_rise;
    elements = board-given s.stored given command time nonce kept.stored_elements limits written early small told;
    taken = given-taken s.stored (shown (live_elements s.stored)) command time nonce given told kept.stored_rise;
    kinds = λ e old c found. (given-kind s.stored (shown (live_elements s.stored)) command time nonce given told
        kept.stored_rise e old c found).0;
  }

  pub change-kept : (command : Command) (capture : Capture) (time nonce : ℕ) → IsWithinLimits command
      → IsWrittenCommand command → time ≤ greatest_whole → nonce ≤ greatest_whole
      → IsKept (after_change command capture time nonce s)
  change-kept command capture time nonce limits written early small =
      outcome-kept capture (outcome_on command time nonce s)
      (λ given told. command-given command time nonce given limits written early small told)

  -- ---- a delivery
  pub delivery-kept : (list : List ElementValue) → AreElements list → IsKept (after_delivery list s)
  delivery-kept list are =
      carried-kept (free_elements s.held list) (All-filter (λ (e : ElementValue). not (is_among s.held e.id))
      (λ e. IsElement e × HasValidTexts e) list are)

-- ---- one step of undo or redo
module _ (K : List ℕ → Type 0) where
  exchanged-ids : (entry : List Pair) → IsEntry entry → ((pair : Pair) → Contains entry pair → K pair.after.id)
      → (pair : Pair) → Contains (map exchanged entry) pair → K pair.after.id
  exchanged-ids entry is ids pair c =
      let of = Contains-map exchanged entry pair c in
      subst (λ (p : Pair). K p.after.id) of.2 (subst K (sym (is.each of.0 of.1).1.id) (ids of.0 of.1))

  -- what holds of the ids of both stacks holds of those of both stacks once the topmost entry that is seen is gone
  sought-ids : (stored : List ElementValue) (stack to : List (List Pair)) (seen : Sought) → AreEntries stack
      → HaveIds K stack → HaveIds K to → sought stored stack to ≡ Some seen
      → HaveIds K seen.below × HaveIds K seen.to
  sought-ids stored [] to seen are ids ids' h = absurd (none-some seen h)
  sought-ids stored (entry ∷ stack) to seen are ids ids' h =
      let own : (pair : Pair) → Contains entry pair → K pair.after.id =
      λ pair c. ids entry pair (Contains-head entry stack) c in
      let rest : HaveIds K stack = λ other pair c d. ids other pair (Contains-cons entry stack other c) d in
      let here : Sought = record { entry = entry; below = stack; to = to } in
      elim (cases_Bool (is_seen stored entry)) [
        | inl t ↦
            subst (λ (s : Sought). HaveIds K s.below × HaveIds K s.to)
            (same_Some here seen
            (sym (cond-true (is_seen stored entry) (Some here) (sought stored stack (map exchanged entry ∷ to)) t)
            ∙ h)) (rest, ids')
        | inr f ↦
            sought-ids stored stack (map exchanged entry ∷ to) seen (All-tail IsEntry entry stack are) rest
            (more-ids K (map exchanged entry) to (exchanged-ids entry (All-head IsEntry entry stack are) own) ids')
            (sym (cond-false (is_seen stored entry) (Some here) (sought stored stack (map exchanged entry ∷ to)) f) ∙ h)
      ]

-- an element that a step gives has a stored id
given-id : (stored : List ElementValue) (time nonce : ℕ) (pairs : List Pair) (e : ElementValue) → AreElements stored
    → Contains (given stored time nonce pairs) e → IsStoredIn stored e.id
given-id stored time nonce pairs e are c =
    let gives = given-each stored time nonce pairs e c in
    let id : e.id ≡ gives.pair.after.id =
    ap (λ (x : ElementValue). x.id) gives.is ∙ (undone-stamp gives.pair gives.now).id
    ∙ (found-is stored gives.pair.after.id gives.now are gives.found).1 in
    subst IsSome (sym (ap (element_of stored) id ∙ gives.found)) refl

made-ids : (stored : List ElementValue) (time nonce : ℕ) (pairs : List Pair) → AreElements stored → (pair : Pair)
    → Contains (made stored (given stored time nonce pairs)) pair → IsStoredIn stored pair.after.id
made-ids stored time nonce pairs are pair c =
    let of = Contains-map (λ (e : ElementValue). pair_with (element_of stored e.id) e) (given stored time nonce pairs)
    pair c in
    subst (λ (p : Pair). IsStoredIn stored p.after.id) of.2 (given-id stored time nonce pairs of.0 are of.1)

-- What a step leaves: elements that are taken, and stacks of entries of stored ids.
pub record IsKeptTurn (stored : List ElementValue) (turn : Turn) : Type 0 where
  pub elements : AreElements turn.given
  pub from : AreEntries turn.from
  pub to : AreEntries turn.to
  pub from_ids : HaveIds (IsStoredIn stored) turn.from
  pub to_ids : HaveIds (IsStoredIn stored) turn.to

step-kept : (stored : List ElementValue) (time nonce : ℕ) (from to : List (List Pair)) (turn : Turn)
    → AreElements stored → AreEntries from → AreEntries to → HaveIds (IsStoredIn stored) from
    → HaveIds (IsStoredIn stored) to
    → time ≤ greatest_whole → nonce ≤ greatest_whole → step stored time nonce from to ≡ Some (Ok turn)
    → IsKeptTurn stored turn
step-kept stored time nonce from to turn are entries others ids ids' early small is =
    let sound = step-sound stored time nonce from to turn are entries others early small is in
    let t = step-turn stored time nonce from to turn is in
    let left = sought-ids (IsStoredIn stored) stored from to t.seen entries ids ids' t.is_sought in
    record {
      elements = sound.elements;
      from = sound.from;
      to = sound.to;
      from_ids = subst (λ (u : Turn). HaveIds (IsStoredIn stored) u.from) (sym t.is) left.0;
      to_ids =
          subst (λ (u : Turn). HaveIds (IsStoredIn stored) u.to) (sym t.is)
          (more-ids (IsStoredIn stored) (made stored (given stored time nonce t.seen.entry)) t.seen.to
          (made-ids stored time nonce t.seen.entry are) left.1);
    }

module _ (s : State) (kept : IsKept s) (time nonce : ℕ) (early : time ≤ greatest_whole) (small : nonce ≤ greatest_whole)
  where
    -- what is stored after a step is that of the snapshot too
    turn-kept : (turn : Turn) (undo redo : List (List Pair)) → IsKeptTurn s.stored turn → AreEntries undo
        → AreEntries redo → HaveIds (IsStoredIn s.stored) undo → HaveIds (IsStoredIn s.stored) redo
        → IsKept (record s {
          stored = taken_all turn.given s.stored;
          snapshot = taken_all turn.given s.stored;
          undo =
              undo;
          redo = redo;
        })
    turn-kept turn undo redo is entries others ids ids' =
        let rise = taken_all-rising s.stored turn.given kept.stored_rise in
        let are = taken_all-elements s.stored turn.given kept.stored_elements is.elements in
        record {
          stored_rise = rise;
          snapshot_rise = rise;
          stored_elements = are;
          snapshot_elements = are;
          kinds = kinds-stored (taken_all turn.given s.stored);
          undo_entries = entries;
          redo_entries = others;
          undo_ids = ids-kept s.stored turn.given undo kept.stored_rise ids;
          redo_ids = ids-kept s.stored turn.given redo kept.stored_rise ids';
        }

    same-stored : (captured s).stored ≡ s.stored
    same-stored = noted-stored (pending s.snapshot s.stored)
      where
        noted-stored : (entry : List Pair) → (noted entry s).stored ≡ s.stored
        noted-stored [] = refl
        noted-stored (pair ∷ entry) = refl

    -- the entries of a capture are of what is stored
    own-ids : (stack : List (List Pair)) → HaveIds (IsStoredIn (captured s).stored) stack
        → HaveIds (IsStoredIn s.stored) stack
    own-ids stack ids = subst (λ es. HaveIds (IsStoredIn es) stack) same-stored ids

    -- what a step of undo or redo gives is of elements
    pub turn-of : (direction : Direction) (turn : Turn) → turn_on direction time nonce s ≡ Some (Ok turn)
        → IsKeptTurn s.stored turn
    turn-of directions.Undo turn is =
        let was = captured-kept s kept in
        step-kept s.stored time nonce (captured s).undo (captured s).redo turn kept.stored_elements was.undo_entries
        was.redo_entries
        (own-ids (captured s).undo was.undo_ids) (own-ids (captured s).redo was.redo_ids) early small is
    turn-of directions.Redo turn is =
        let was = captured-kept s kept in
        step-kept s.stored time nonce (captured s).redo (captured s).undo turn kept.stored_elements was.redo_entries
        was.undo_entries
        (own-ids (captured s).redo was.redo_ids) (own-ids (captured s).undo was.undo_ids) early small is

    turns-kept : (direction : Direction) (found : Option (Result Turn (List ℕ)))
        → ((turn : Turn) → found ≡ Some (Ok turn) → IsKeptTurn s.stored turn) → IsKept (after_turn_of direction found s)
    turns-kept direction None turns = captured-kept s kept
    turns-kept direction (Some (Err id)) turns = kept
    turns-kept directions.Undo (Some (Ok turn)) turns =
        let own = turns turn refl in
        turn-kept turn turn.from turn.to own own.from own.to own.from_ids own.to_ids
    turns-kept directions.Redo (Some (Ok turn)) turns =
        let own = turns turn refl in
        turn-kept turn turn.to turn.from own own.to own.from own.to_ids own.from_ids

    pub after-kept : (direction : Direction) → IsKept (after_turn direction time nonce s)
    after-kept direction = turns-kept direction (turn_on direction time nonce s) (turn-of direction)
