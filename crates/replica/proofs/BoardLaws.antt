-- What a board is after it stored updates: it is sound, and stands for what the same makes of a state.
use Rattle.std.proofs.Common.{◌≡◌, ◌≢◌, ◌↔◌, Bool, true, false, IsTrue, List, [], ◌∷◌, IsSome, refl, sym, ap, ◌∙◌, subst, arith}
use Rattle.std.proofs.lemmas.Bool.{true_from_ne_false}
use Rattle.std.proofs.lemmas.List.Elements.{All-nil}
use Rattle.frac_keys.specs.Rising.{are_rising}
use Rattle.json_text.proofs.CallerLemmas.{Contains-map}
use Rattle.elem.specs.ElementValue.{ElementValue}
use Rattle.elem.specs.Facts.{IsElement}
use Rattle.elem.specs.Said.{HasValidTexts, AreElements}
use Rattle.elem_store.specs.Updates.{element_of, ids_of, takings}
use Rattle.elem_store.proofs.CallerLemmas.{filter-Contains}
use Rattle.delta.specs.Delta.{Delta}
use Rattle.delta.specs.Pairs.{Pair, pair_with, pairs_from, EntryStandsFor}
use Rattle.view.specs.Shown.{live_elements}
use Rattle.board_commands.specs.declared.command.Capture.{Capture}
use Rattle.board_commands.specs.declared.command.Capture.TheVariants.{Now, Later, Never}
use Rattle.history.specs.Pairs.{IsEntryOf, StackStandsFor, with_pairs, pairs_left}
use Rattle.history.specs.Stacks.{Stacks, HasStoredIds, HaveStoredIds, noted, with_entry, redo_left}
use Rattle.history.proofs.CallerLemmas.{noted-stands, left-stands, left-ids, noted-ids}
use Rattle.undo_model.specs.Carrying.{taken_all, carried_all}
use Rattle.undo_model.specs.Differing.{is_changed, pending}
use Rattle.undo_model.proofs.CallerLemmas.{pending-entry, taken_all-elements, taken_all-rising, carried_all-elements, carried_all-rising, takings-elements}
use Rattle.replica.specs.Boards.{Told, ToldStandsFor, IsSound, IsTold}
use Rattle.replica.specs.inner.Boards.{HasTakenAll, HasCarriedAll, HasCaptured, HasStoredGiven}
use Rattle.replica.specs.State as state
use Rattle.replica.specs.State.{State}
use Rattle.replica.proofs.StoredLaws.{ids-kept, stack-kept, carried-known, element-some}

-- a board whose parts are these
pub told-is : (t : Told) (stored view snapshot : List ElementValue) (stacks : Stacks) → t.stored ≡ stored
    → t.view ≡ view → t.snapshot ≡ snapshot → t.stacks ≡ stacks
    → (let u : Told = record { stored = stored; view = view; snapshot = snapshot; stacks = stacks } in t ≡ u)
told-is t stored view snapshot stacks p q r u = λ i. record { stored = p i; view = q i; snapshot = r i; stacks = u i }

-- ---- nothing
abbrev pub no_board : Told
no_board = record { stored = []; view = []; snapshot = []; stacks = record { undo = []; redo = [] } }

pub nothing-stands : ToldStandsFor no_board state.nothing
nothing-stands = record { stored = refl; snapshot = refl; undo = tt; redo = tt }

pub nothing-told : IsTold no_board
nothing-told = (
  record {
    view = refl;
    stored_rise = refl;
    snapshot_rise = refl;
    stored_elements = All-nil (λ e. IsElement e × HasValidTexts e);
    snapshot_elements = All-nil (λ e. IsElement e × HasValidTexts e);
    known = λ id some. some;
    undo_ids = λ parts c. absurd (omega (arith, c.1));
    redo_ids = λ parts c. absurd (omega (arith, c.1));
  },
  (state.nothing, nothing-stands),
)

-- ---- what is pending
pub pending-is : (snapshot stored : List ElementValue) (entry : List Delta) → AreElements snapshot → AreElements stored
    → are_rising (ids_of stored) ≡ true → EntryStandsFor entry (pending snapshot stored)
    → IsEntryOf entry (pending snapshot stored)
pending-is snapshot stored entry are are' rise stands =
    record { stands = stands; entry = pending-entry snapshot stored are are' rise }

-- an entry has a part exactly where it is of some pair
entry-empty : (parts : List Delta) (pairs : List Pair) → IsEntryOf parts pairs → (parts ≡ [] → pairs ≡ [])
    × (pairs ≡ [] → parts ≡ [])
entry-empty [] [] is = (λ none. refl, λ none. refl)
entry-empty [] (pair ∷ pairs) is = absurd (noted-stands [] (pair ∷ pairs) [] [] is tt)
entry-empty (part ∷ parts) [] is = absurd (noted-stands (part ∷ parts) [] [] [] is tt)
entry-empty (part ∷ parts) (pair ∷ pairs) is = (λ none. absurd (cc), λ none. absurd (cc))

pub entry-tells : (snapshot stored : List ElementValue) (entry : List Delta) (has : Bool) → AreElements snapshot
    → AreElements stored → are_rising (ids_of stored) ≡ true → EntryStandsFor entry (pending snapshot stored)
    → (has ≡ true → entry ≢ []) → (has ≡ false → entry ≡ []) → IsTrue has ↔ (pending snapshot stored ≢ [])
entry-tells snapshot stored entry has are are' rise stands some none =
    let empty = entry-empty entry (pending snapshot stored) (pending-is snapshot stored entry are are' rise stands) in
    (λ t e. some t (empty.1 e), λ n. true_from_ne_false has (λ f. n (empty.0 (none f))))

-- its ids are stored
pub pending-ids : (snapshot stored : List ElementValue) (entry : List Delta) → are_rising (ids_of stored) ≡ true
    → EntryStandsFor entry (pending snapshot stored) → HasStoredIds stored entry
pending-ids snapshot stored entry rise stands part c =
    let of = stands.each_part part c in
    let among = (filter-Contains is_changed (pairs_from (element_of snapshot) stored) of.0 of.1).0 in
    let own = Contains-map (λ (e : ElementValue). pair_with (element_of snapshot e.id) e) stored of.0 among in
    let same : own.0.id ≡ part.id = ap (λ (pair : Pair). pair.after.id) own.2 ∙ sym of.2.stands.id in
    subst (λ id. IsSome (element_of stored id)) same (element-some stored own.0 rise own.1)

-- ---- an entry that is noted

noted-parts : (pairs : List Pair) (s : State) → (((state.noted pairs s).undo ≡ with_pairs pairs s.undo)
    × ((state.noted pairs s).redo ≡ pairs_left pairs s.redo)) × ((state.noted pairs s).stored ≡ s.stored)
noted-parts [] s = ((refl, refl), refl)
noted-parts (pair ∷ pairs) s = ((refl, refl), refl)

-- what a capture makes of a board of which these are stored
abbrev pub captured_told : List Delta → Told → Told
captured_told entry t = record { stored = t.stored; view = t.view; snapshot = t.stored; stacks = noted entry t.stacks }

pub captured-stands : (t : Told) (s : State) (entry : List Delta) → AreElements t.snapshot → AreElements t.stored
    → are_rising (ids_of t.stored) ≡ true → EntryStandsFor entry (pending t.snapshot t.stored) → ToldStandsFor t s
    → ToldStandsFor (captured_told entry t) (state.captured s)
captured-stands t s entry are are' rise stands st =
    let is = subst (λ es. IsEntryOf entry (pending s.snapshot es)) st.stored
    (subst (λ es. IsEntryOf entry (pending es t.stored)) st.snapshot
    (pending-is t.snapshot t.stored entry are are' rise stands)) in
    let pairs : List Pair = pending s.snapshot s.stored in
    let parts = noted-parts pairs s in
    record {
      stored = st.stored ∙ sym parts.1;
      snapshot = st.stored;
      undo = subst (StackStandsFor (with_entry entry t.stacks.undo)) (sym parts.0.0)
          (noted-stands entry pairs t.stacks.undo s.undo is st.undo);
      redo = subst (StackStandsFor (redo_left entry t.stacks.redo)) (sym parts.0.1)
          (left-stands entry pairs t.stacks.redo s.redo is st.redo);
    }

pub captured-sound : (t : Told) (entry : List Delta) → t.view ≡ live_elements t.stored
    → are_rising (ids_of t.stored) ≡ true → AreElements t.stored → HaveStoredIds t.stored t.stacks.undo
    → HaveStoredIds t.stored t.stacks.redo → EntryStandsFor entry (pending t.snapshot t.stored)
    → IsSound (captured_told entry t)
captured-sound t entry view rise are undo redo stands = record {
  view = view;
  stored_rise = rise;
  snapshot_rise = rise;
  stored_elements = are;
  snapshot_elements = are;
  known = λ id some. some;
  undo_ids = noted-ids t.stored entry t.stacks.undo (pending-ids t.snapshot t.stored entry rise stands) undo;
  redo_ids = left-ids t.stored entry t.stacks.redo redo;
}

-- ---- updates that were taken
module _ (old : Told) (list : List ElementValue) (sound : IsSound old) (are : AreElements list) where
  abbrev stored' : List ElementValue
  stored' = taken_all list old.stored

  pub stored-rise : are_rising (ids_of stored') ≡ true
  stored-rise = taken_all-rising old.stored list sound.stored_rise

  pub stored-elements : AreElements stored'
  stored-elements = taken_all-elements old.stored list sound.stored_elements are

  -- with the snapshot and the stacks as they were
  abbrev taken_told : Told
  taken_told = record { stored = stored'; view = live_elements stored'; snapshot = old.snapshot; stacks = old.stacks }

  taken-sound : IsSound taken_told
  taken-sound = record {
    view = refl;
    stored_rise = stored-rise;
    snapshot_rise = sound.snapshot_rise;
    stored_elements = stored-elements;
    snapshot_elements = sound.snapshot_elements;
    known = λ id some. ids-kept old.stored list sound.stored_rise id (sound.known id some);
    undo_ids = stack-kept old.stored list old.stacks.undo sound.stored_rise sound.undo_ids;
    redo_ids = stack-kept old.stored list old.stacks.redo sound.stored_rise sound.redo_ids;
  }

  taken-stands : (s : State) → ToldStandsFor old s → ToldStandsFor taken_told (state.stored_with list s)
  taken-stands s st =
      record { stored = ap (taken_all list) st.stored; snapshot = st.snapshot; undo = st.undo; redo = st.redo }

  -- carried into the snapshot
  abbrev carried_told : Told
  carried_told = record {
    stored = stored';
    view = live_elements stored';
    snapshot =
        carried_all (takings old.stored list) old.snapshot;
    stacks = old.stacks;
  }

  carried-sound : IsSound carried_told
  carried-sound = record {
    view = refl;
    stored_rise = stored-rise;
    snapshot_rise = carried_all-rising (takings old.stored list) old.snapshot sound.snapshot_rise;
    stored_elements = stored-elements;
    snapshot_elements = carried_all-elements (takings old.stored list) old.snapshot
        (takings-elements old.stored list sound.stored_elements are) sound.snapshot_elements;
    known = carried-known old.stored list old.snapshot sound.stored_rise sound.snapshot_rise sound.known;
    undo_ids = stack-kept old.stored list old.stacks.undo sound.stored_rise sound.undo_ids;
    redo_ids = stack-kept old.stored list old.stacks.redo sound.stored_rise sound.redo_ids;
  }

  carried-stands : (s : State) → ToldStandsFor old s → ToldStandsFor carried_told (state.carried_with list s)
  carried-stands s st = record {
    stored = ap (taken_all list) st.stored;
    snapshot = (λ i. carried_all (takings (st.stored i) list) (st.snapshot i));
    undo = st.undo;
    redo = st.redo;
  }

-- what a board is and stands for after a call
pub record Becomes (old new : Told) (after : State → State) : Type 0 where
  pub sound : IsSound new
  pub stands : (s : State) → ToldStandsFor old s → ToldStandsFor new (after s)

pub Becomes-told : (old new : Told) (after : State → State) → IsTold old → Becomes old new after → IsTold new
Becomes-told old new after is b = (b.sound, (after is.1.0, b.stands is.1.0 is.1.1))

pub taken-becomes : (old : Told) (list : List ElementValue) (new : Told) → IsSound old → HasTakenAll old list new
    → Becomes old new (state.stored_with list)
taken-becomes old list new sound h =
    let same = sym (told-is new (taken_all list old.stored) (live_elements (taken_all list old.stored)) old.snapshot
    old.stacks h.stored h.view h.snapshot h.stacks) in
    subst (λ t. Becomes old t (state.stored_with list)) same (record {
      sound = taken-sound old list sound h.elements;
      stands = taken-stands old list sound h.elements;
    })

pub carried-becomes : (old : Told) (list : List ElementValue) (new : Told) → IsSound old → HasCarriedAll old list new
    → Becomes old new (state.carried_with list)
carried-becomes old list new sound h =
    let same = sym (told-is new (taken_all list old.stored) (live_elements (taken_all list old.stored))
    (carried_all (takings old.stored list) old.snapshot) old.stacks h.stored h.view h.snapshot h.stacks) in
    subst (λ t. Becomes old t (state.carried_with list)) same (record {
      sound = carried-sound old list sound h.elements;
      stands = carried-stands old list sound h.elements;
    })

pub captured-becomes : (old : Told) (list : List ElementValue) (new : Told) → IsSound old → HasCaptured old list new
    → Becomes old new (λ s. state.captured (state.stored_with list s))
captured-becomes old list new sound h =
    let t : Told = record {
      stored = taken_all list old.stored;
      view = live_elements (taken_all list old.stored);
      snapshot = old.snapshot;
      stacks = old.stacks;
    } in
    let was = taken-sound old list sound h.elements in
    let same =
    sym (told-is new t.stored t.view t.stored (noted h.entry old.stacks) h.stored h.view h.snapshot h.stacks) in
    subst (λ u. Becomes old u (λ s. state.captured (state.stored_with list s))) same (record {
      sound = captured-sound t h.entry refl was.stored_rise was.stored_elements was.undo_ids was.redo_ids h.stands;
      stands = λ s st. captured-stands t (state.stored_with list s) h.entry was.snapshot_elements was.stored_elements
          was.stored_rise h.stands (taken-stands old list sound h.elements s st);
    })

pub given-becomes : (capture : Capture) (old : Told) (given : List ElementValue) (new : Told) → IsSound old
    → HasStoredGiven capture old given new → Becomes old new (state.after_given capture given)
given-becomes Now old given new sound h = captured-becomes old given new sound h
given-becomes Later old given new sound h = taken-becomes old given new sound h
given-becomes Never old given new sound h = carried-becomes old given new sound h
