-- What taking updates and carrying them keeps of stored elements and of a snapshot.
use Rattle.std.proofs.Common.{◌≡◌, ℕ, true, List, [], ◌∷◌, ◌++◌, Option, Some, None, IfSome, IsSome, Contains, All, inl, inr, refl, sym, ◌∙◌, subst}
use Rattle.std.proofs.lemmas.Bool.{cases_Bool, cond-false, cond_both}
use Rattle.std.proofs.lemmas.List.Elements.{All-append, All-contains, All-head, All-tail, Contains-append_right, All-nil, All-cons, All-weaker, All-contains_itself}
use Rattle.frac_keys.specs.Rising.{are_rising}
use Rattle.elem.specs.ElementValue.{ElementValue}
use Rattle.elem.specs.Order.{has_id}
use Rattle.elem_store.specs.Updates.{Taking, is_newer, element_of, ids_of, stored_of, takings, AreStored}
use Rattle.elem_store.proofs.CallerLemmas.{IsBestOf-stored, same_id, of_itself, find-Some, member, AreStored-itself, AreStored-ids, ids-stay}
use Rattle.links.proofs.CallerLemmas.{list_any-from}
use Rattle.delta.specs.Delta.{Delta}
use Rattle.delta.specs.Pairs.{Pair}
use Rattle.undo_model.specs.Carrying.{with_put, taken_all, followed, carried_over, carried, carried_all}
use Rattle.undo_model.specs.Differing.{same_kind}
use Rattle.undo_model.specs.Undoing.{undone, undone_in}
use Rattle.undo_model.proofs.CallerLemmas.{put-each, taken_all-is, taken_all-stored, carried-rising}
use Rattle.history.specs.Stacks.{HaveStoredIds}
use Rattle.replica.specs.Boards.{AreKnown}

-- what is stored of stored elements and further updates
own-stored : (stored list : List ElementValue) → are_rising (ids_of stored) ≡ true
    → AreStored (stored ++ list) (taken_all list stored)
own-stored stored list rise = taken_all-stored stored stored list (AreStored-itself stored rise)

-- ids stay stored
pub ids-kept : (stored list : List ElementValue) → are_rising (ids_of stored) ≡ true
    → AreKnown stored (taken_all list stored)
ids-kept stored list rise id some =
    ids-stay stored list stored (taken_all list stored) id (AreStored-itself stored rise) (own-stored stored list rise)
    some

pub stack-kept : (stored list : List ElementValue) (stack : List (List Delta)) → are_rising (ids_of stored) ≡ true
    → HaveStoredIds stored stack → HaveStoredIds (taken_all list stored) stack
stack-kept stored list stack rise ids parts c part d = ids-kept stored list rise part.id (ids parts c part d)

-- the id of each update is stored
pub ids-taken : (stored list : List ElementValue) (e : ElementValue) → are_rising (ids_of stored) ≡ true
    → Contains list e → IsSome (element_of (taken_all list stored) e.id)
ids-taken stored list e rise c =
    AreStored-ids (stored ++ list) (taken_all list stored) e.id (own-stored stored list rise)
    ∙ list_any-from (has_id e.id) (stored ++ list) e (Contains-append_right stored list e c) (of_itself e)

-- a stored element is that of its id
pub element-some : (stored : List ElementValue) (e : ElementValue) → are_rising (ids_of stored) ≡ true
    → Contains stored e → IsSome (element_of stored e.id)
element-some stored e rise c = subst IsSome (sym (member None None stored e rise c)) refl

-- ---- what becomes stored
-- each is one of the updates, and over what is stored of them
takings-from : (P : ElementValue → Type 0) (updates list : List ElementValue) → All P updates → All P list
    → All (λ (taking : Taking). IfSome taking.before P × P taking.taken) (takings updates list)
takings-from P updates [] all all' = All-nil (λ (taking : Taking). IfSome taking.before P × P taking.taken)
takings-from P updates (e ∷ list) all all' =
    let own : P e = All-head P e list all' in
    let Q : Taking → Type 0 = λ (taking : Taking). IfSome taking.before P × P taking.taken in
    let rest : All Q (takings (updates ++ e ∷ []) list) =
    takings-from P (updates ++ e ∷ []) list (All-append P updates (e ∷ []) all (All-cons P e [] own (All-nil P)))
    (All-tail P e list all') in
    cond_both (is_newer e (stored_of updates e.id)) (record { before = stored_of updates e.id; taken = e }
    ∷ takings (updates ++ e ∷ []) list) (takings (updates ++ e ∷ []) list)
    (All Q)
    (λ t. All-cons Q (record { before = stored_of updates e.id; taken = e }) (takings (updates ++ e ∷ []) list)
    (before (stored_of updates e.id) refl, own) rest) (λ f. rest)
  where
    before : (o : Option ElementValue) → stored_of updates e.id ≡ o → IfSome o P
    before None h = tt
    before (Some x) h = All-contains P updates x all (IsBestOf-stored updates e.id x h).taken

-- ---- a snapshot into which changes were carried
-- each id of these elements is one of some
AreAmong : (List ℕ → Type 0) → List ElementValue → Type 0
AreAmong K elements = (id : List ℕ) → IsSome (element_of elements id) → K id

module _ (K : List ℕ → Type 0) where
  put-among : (e : ElementValue) (elements : List ElementValue) → are_rising (ids_of elements) ≡ true → K e.id
      → AreAmong K elements → AreAmong K (with_put e elements)
  unfolding AreAmong
  put-among e elements rise own among id some =
      let each = (put-each e elements rise).1 id in
      elim (cases_Bool (has_id id e)) [
        | inl t ↦ subst K (sym (same_id id e t)) own
        | inr f ↦ among id (subst IsSome (each ∙ cond-false (has_id id e) (Some e) (element_of elements id) f) some)
      ]

  followed-among : (o : Option ElementValue) (old new : ElementValue) (snapshot : List ElementValue)
      → element_of snapshot new.id ≡ o → are_rising (ids_of snapshot) ≡ true → AreAmong K snapshot
      → AreAmong K (followed o old new snapshot)
  unfolding AreAmong undone
  followed-among None old new snapshot h rise among = among
  followed-among (Some held) old new snapshot h rise among =
      let pair : Pair = record { before = new; after = old } in
      let same = same_id new.id held (find-Some (has_id new.id) snapshot held h).1 in
      put-among (undone pair held) snapshot rise
      (subst K (same ∙ sym (undone-id pair held)) (among new.id (subst IsSome (sym h) refl))) among
    where
      undone-id : (pair : Pair) (now : ElementValue) → (undone pair now).id ≡ now.id
      undone-id pair now = cond_both (same_kind pair.after.kind now.kind) (undone_in pair now) now (λ e. e.id ≡ now.id)
          (λ t. refl) (λ f. refl)

  carried-among : (before : Option ElementValue) (new : ElementValue) (snapshot : List ElementValue)
      → are_rising (ids_of snapshot) ≡ true → K new.id → AreAmong K snapshot
      → AreAmong K (carried_over before new snapshot)
  carried-among None new snapshot rise own among = put-among new snapshot rise own among
  carried-among (Some old) new snapshot rise own among =
      cond_both (same_kind old.kind new.kind) (followed (element_of snapshot new.id) old new snapshot)
      (with_put new snapshot) (AreAmong K)
      (λ t. followed-among (element_of snapshot new.id) old new snapshot refl rise among)
      (λ f. put-among new snapshot rise own among)

  all-among : (takings : List Taking) (snapshot : List ElementValue) → are_rising (ids_of snapshot) ≡ true
      → All (λ (taking : Taking). K taking.taken.id) takings → AreAmong K snapshot
      → AreAmong K (carried_all takings snapshot)
  all-among [] snapshot rise all among = among
  all-among (taking ∷ takings) snapshot rise all among =
      all-among takings (carried taking snapshot) (carried-rising taking snapshot rise)
      (All-tail (λ (taking : Taking). K taking.taken.id) taking takings all)
      (carried-among taking.before taking.taken snapshot rise
      (All-head (λ (taking : Taking). K taking.taken.id) taking takings all) among)

-- its ids are stored, where they were before
pub carried-known : (stored list snapshot : List ElementValue) → are_rising (ids_of stored) ≡ true
    → are_rising (ids_of snapshot) ≡ true → AreKnown snapshot stored
    → AreKnown (carried_all (takings stored list) snapshot) (taken_all list stored)
unfolding AreAmong
carried-known stored list snapshot rise rise' known =
    let K : List ℕ → Type 0 = λ id. IsSome (element_of (taken_all list stored) id) in
    let P : ElementValue → Type 0 = λ e. K e.id in
    let all = takings-from P stored list
    (All-weaker (Contains stored) P (λ e c. ids-kept stored list rise e.id (element-some stored e rise c)) stored
    (All-contains_itself stored))
    (All-weaker (Contains list) P (λ e c. ids-taken stored list e rise c) list (All-contains_itself list)) in
    all-among K (takings stored list) snapshot rise'
    (All-weaker (λ (taking : Taking). IfSome taking.before P × P taking.taken) (λ (taking : Taking). K taking.taken.id)
    (λ taking h. h.1) (takings stored list) all)
    (λ id some. ids-kept stored list rise id (known id some))

-- ---- a store that takes copies of updates
pub taken-by : (old now list copies new : List ElementValue) → are_rising (ids_of old) ≡ true → now ≡ old
    → copies ≡ list → ((updates : List ElementValue) → AreStored updates now → AreStored (updates ++ copies) new)
    → new ≡ taken_all list old
taken-by old now list copies new rise same equal stores =
    let itself = AreStored-itself old rise in
    taken_all-is old old list new itself
    (subst (λ us. AreStored (old ++ us) new) equal (stores old (subst (AreStored old) (sym same) itself)))
