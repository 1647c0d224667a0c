-- The entry of a change: from what agrees with what was stored after it, it leads to what agrees with what was before.
use Rattle.std.proofs.Common.{◌≡◌, ℕ, true, false, List, [], ◌∷◌, Option, Some, None, ◌⊎◌, Contains, inl, inr, refl, sym, ap, ◌∙◌, subst, arith}
use Rattle.std.specs.Option.{option_map}
use Rattle.std.proofs.lemmas.Bool.{cases_Bool, false≢true, both_ways}
use Rattle.std.proofs.lemmas.Option.{none-some, same_Some}
use Rattle.frac_keys.specs.Rising.{are_rising}
use Rattle.json_text.proofs.CallerLemmas.{Contains-map, Contains-to_map}
use Rattle.elem.specs.ElementValue.{ElementValue}
use Rattle.elem.specs.Order.{unstamped, has_id}
use Rattle.elem.specs.Said.{AreElements}
use Rattle.elem_store.specs.Updates.{element_of, ids_of}
use Rattle.elem_store.proofs.CallerLemmas.{same_id, Contains-head, Contains-filter, filter-Contains, find-Some, member}
use Rattle.delta.specs.Pairs.{Pair, pair_with, pairs_from, IsChanged}
use Rattle.delta.specs.Parts.{counted}
use Rattle.undo_model.specs.Carrying.{taken_all}
use Rattle.undo_model.specs.Differing.{is_changed, pending}
use Rattle.undo_model.specs.Entries.{IsEntry}
use Rattle.undo_model.proofs.CallerLemmas.{changed-is, changed-false, found-is, pairs-elements, pending-entry, taken_all-elements, taken_all-rising}
use Rattle.replica.specs.Back.{AgreesWith, Alters, IsStoredChange, changed}
use Rattle.replica.specs.Sound.{AreStoredAlike}
use Rattle.replica.specs.State.{State, noted, stored_with}
use Rattle.replica.proofs.Agreeing.{agrees-itself}
use Rattle.replica.proofs.Leading.{bare_of, some-bare, Meets, Leads, IsApart, IsVisible}
use Rattle.replica.proofs.TakenAt.{taken-at, taken-else}

-- ---- the pairs between a snapshot and what is stored
module _ (snap stored : List ElementValue) (are : AreElements snap) (are' : AreElements stored)
    (rise : are_rising (ids_of stored) ≡ true) (alike : AreStoredAlike snap stored) where
  -- a pending pair is one of these
  pending-of : (pair : Pair) → Contains (pending snap stored) pair → (a : ElementValue) × Contains stored a
      × (pair_with (element_of snap a.id) a ≡ pair) × (is_changed pair ≡ true)
  pending-of pair c =
      let own = filter-Contains is_changed (pairs_from (element_of snap) stored) pair c in
      let of = Contains-map (λ (e : ElementValue). pair_with (element_of snap e.id) e) stored pair own.0 in
      (of.0, of.1, of.2, own.1)

  after-stored : (pair : Pair) → Contains (pending snap stored) pair → element_of stored pair.after.id ≡ Some pair.after
  after-stored pair c =
      let of = pending-of pair c in
      subst (λ (p : Pair). element_of stored p.after.id ≡ Some p.after) of.2 (member None None stored of.0 rise of.1)

  pub pending-meets : (n : List ElementValue) → AgreesWith stored n → Meets (pending snap stored) n
  pending-meets n agrees pair c =
      let own = agrees.each pair.after.id pair.after (after-stored pair c) in
      record { now = own.0; found = own.1; same = own.2 }

  among : (a : ElementValue) → Contains stored a
      → Contains (pairs_from (element_of snap) stored) (pair_with (element_of snap a.id) a)
  among a c = Contains-to_map (λ (e : ElementValue). pair_with (element_of snap e.id) e) stored a c

  kind-before : (a : ElementValue) → Contains stored a → (o : Option ElementValue) → element_of snap a.id ≡ o
      → (counted o a).kind ≡ a.kind
  kind-before a c None h = refl
  kind-before a c (Some b) h =
      let own = alike a.id b h in
      sym own.2 ∙ ap (λ (e : ElementValue). e.kind) (same_Some own.0 a (sym own.1 ∙ member None None stored a rise c))

  -- where its pair isn't changed, no pending pair is of an element's id
  unchanged-apart : (a : ElementValue) → Contains stored a → is_changed (pair_with (element_of snap a.id) a) ≡ false
      → IsApart (pending snap stored) a.id
  unchanged-apart a c f pair d same =
      let of = pending-of pair d in
      let id : of.0.id ≡ a.id = ap (λ (p : Pair). p.after.id) of.2 ∙ same in
      let here : of.0 ≡ a = same_Some of.0 a (sym (member None None stored of.0 rise of.1) ∙ ap (element_of stored) id
      ∙ member None None stored a rise c) in
      both_ways (is_changed (pair_with (element_of snap a.id) a)) f
      (ap (λ (x : ElementValue). is_changed (pair_with (element_of snap x.id) x)) (sym here) ∙ ap is_changed of.2
      ∙ of.3)

  module _ (n m : List ElementValue) (agrees : AgreesWith stored n) (leads : Leads (pending snap stored) n m) where
    led : (a : ElementValue) → Contains stored a → bare_of m a.id ≡ Some (unstamped (counted (element_of snap a.id) a))
    led a c =
        let pair : Pair = pair_with (element_of snap a.id) a in
        elim (cases_Bool (is_changed pair)) [
          | inl t ↦
              let own = leads.each pair (Contains-filter is_changed (pairs_from (element_of snap) stored) pair
              (among a c) t) in
              ap (option_map unstamped) own.is ∙ ap Some own.to
          | inr f ↦
              let own = agrees.each a.id a (member None None stored a rise c) in
              let of = (pairs-elements snap are stored are' pair (among a c)).0 in
              sym (leads.others a.id (unchanged-apart a c f)) ∙ ap (option_map unstamped) own.1 ∙ ap Some own.2
              ∙ ap Some (sym (changed-false pair of f (kind-before a c (element_of snap a.id) refl)))
        ]

    led-at : (id : List ℕ) (a : ElementValue) → element_of stored id ≡ Some a
        → bare_of m id ≡ Some (unstamped (counted (element_of snap id) a))
    led-at id a h =
        let found = find-Some (has_id id) stored a h in
        subst (λ k. bare_of m k ≡ Some (unstamped (counted (element_of snap k) a))) (sym (same_id id a found.1))
        (led a found.0)

    pub leads-before : AgreesWith snap m
    leads-before = record {
      each = λ id b h.
          let own = alike id b h in
          some-bare (element_of m id) (unstamped b) (led-at id own.0 own.1
          ∙ ap (λ o. Some (unstamped (counted o own.0))) h);
      others = λ id e none some. gone id e none some (element_of stored id) refl;
    }
      where
        gone : (id : List ℕ) (e : ElementValue) → element_of snap id ≡ None → element_of m id ≡ Some e
            → (o : Option ElementValue) → element_of stored id ≡ o → e.deleted ≡ true
        gone id e none some (Some a) h =
            let same : unstamped e ≡ unstamped (record a { deleted = true }) =
            same_Some (unstamped e) (unstamped (record a { deleted = true })) (sym (ap (option_map unstamped) some)
            ∙ led-at id a h ∙ ap (λ o. Some (unstamped (counted o a))) none) in
            ap (λ (x : ElementValue). x.deleted) same
        gone id e none some None h =
            let apart : IsApart (pending snap stored) id =
            λ pair c same. none-some pair.after (sym h ∙ ap (element_of stored) (sym same) ∙ after-stored pair c) in
            let was =
            some-bare (element_of n id) (unstamped e) (leads.others id apart ∙ ap (option_map unstamped) some) in
            sym (ap (λ (x : ElementValue). x.deleted) was.2) ∙ agrees.others id was.0 h was.1

  -- where nothing is pending, what is stored agrees with the snapshot
  pub none-agrees : pending snap stored ≡ [] → AgreesWith snap stored
  none-agrees none = leads-before stored stored (agrees-itself stored) (record {
    each = λ pair c. absurd (omega (arith, (subst (λ ps. Contains ps pair) none c).1));
    others = λ id apart. refl;
  })

-- ---- a change
first-of : (xs : List ElementValue) → (xs ≡ [] → ⊥) → (x : ElementValue) × Contains xs x
first-of [] h = absurd (h refl)
first-of (x ∷ xs) h = (x, Contains-head x xs)

noted-some : (entry : List Pair) (pair : Pair) (s : State) → Contains entry pair
    → noted entry s ≡ record s { undo = entry ∷ s.undo; redo = [] }
noted-some [] pair s c = absurd (omega (arith, c.1))
noted-some (first ∷ entry) pair s c = refl

module _ (s : State) (given : List ElementValue) (change : IsStoredChange s.stored given)
    (rise : are_rising (ids_of s.stored) ≡ true)
    (are : AreElements s.stored) (are' : AreElements s.snapshot) (same : AgreesWith s.snapshot s.stored) where
  new-at : (e : ElementValue) → Contains given e → element_of (taken_all given s.stored) e.id ≡ Some e
  new-at e c = taken-at s.stored given e rise change.ordered change.taken c

  pub new-elements : AreElements (taken_all given s.stored)
  new-elements = taken_all-elements s.stored given are change.elements

  pub new-rising : are_rising (ids_of (taken_all given s.stored)) ≡ true
  new-rising = taken_all-rising s.stored given rise

  -- what is stored of the id of an element of the snapshot
  stored-was : (id : List ℕ) (b : ElementValue) → element_of s.snapshot id ≡ Some b → (o : ElementValue)
      × (element_of s.stored id ≡ Some o) × (unstamped o ≡ unstamped b)
  stored-was id b h = same.each id b h

  pub new-alike : AreStoredAlike s.snapshot (taken_all given s.stored)
  new-alike id b h = go (element_of given id) refl
    where
      was : (o : ElementValue) × (element_of s.stored id ≡ Some o) × (unstamped o ≡ unstamped b)
      was = stored-was id b h

      go : (o : Option ElementValue) → element_of given id ≡ o → (other : ElementValue)
          × (element_of (taken_all given s.stored) id ≡ Some other) × (other.kind ≡ b.kind)
      go None none = (
        was.0,
        taken-else s.stored given id rise (λ e c is. none-some e (sym none ∙ ap (element_of given) (sym is)
            ∙ member None None given e change.ordered c)) ∙ was.1,
        ap (λ (x : ElementValue). x.kind) was.2,
      )
      go (Some e) some =
          let found = find-Some (has_id id) given e some in
          let named : id ≡ e.id = same_id id e found.1 in
          let own : Alters (Some was.0) e =
          subst (λ o. Alters o e) (ap (element_of s.stored) (sym named) ∙ was.1) (change.alters e found.0) in (
            e,
            ap (element_of (taken_all given s.stored)) named ∙ new-at e found.0,
            sym own.1
                ∙ ap (λ (x : ElementValue). x.kind) was.2,
          )

  pub new-entry : IsEntry (pending s.snapshot (taken_all given s.stored))
  new-entry = pending-entry s.snapshot (taken_all given s.stored) are' new-elements new-rising

  -- a given element that the snapshot lacks is live, and one that was stored there stays
  new-live : (e : ElementValue) → Contains given e → element_of s.snapshot e.id ≡ None → (o : Option ElementValue)
      → element_of s.stored e.id ≡ o → e.deleted ≡ false
  new-live e c none None h = subst (λ o. Alters o e) h (change.alters e c)
  new-live e c none (Some old) h =
      let own : Alters (Some old) e = subst (λ o. Alters o e) h (change.alters e c) in
      absurd (false≢true (sym own.0 ∙ same.others e.id old none h))

  dead-stays : (id : List ℕ) (e : ElementValue) → element_of s.snapshot id ≡ None → element_of s.stored id ≡ Some e
      → element_of (taken_all given s.stored) id ≡ Some e
  dead-stays id e none some = go (element_of given id) refl
    where
      go : (o : Option ElementValue) → element_of given id ≡ o → element_of (taken_all given s.stored) id ≡ Some e
      go None h =
          taken-else s.stored given id rise (λ x c is. none-some x (sym h ∙ ap (element_of given) (sym is)
          ∙ member None None given x change.ordered c)) ∙ some
      go (Some new) h =
          let found = find-Some (has_id id) given new h in
          let own : Alters (Some e) new = subst (λ o. Alters o new)
          (ap (element_of s.stored) (sym (same_id id new found.1)) ∙ some) (change.alters new found.0) in
          absurd (false≢true (sym own.0 ∙ same.others id e none some))

  -- undoing the change leads back to what was stored
  pub leads-stored : (n m : List ElementValue) → AgreesWith (taken_all given s.stored) n
      → Leads (pending s.snapshot (taken_all given s.stored)) n m → AgreesWith s.stored m
  leads-stored n m agrees leads = record {
    each = λ id e h. back id e h (element_of s.snapshot id) refl;
    others = λ id e none some. before.others id e (absent id none (element_of s.snapshot id) refl) some;
  }
    where
      before : AgreesWith s.snapshot m
      before =
          leads-before s.snapshot (taken_all given s.stored) are' new-elements new-rising new-alike n m agrees leads

      back : (id : List ℕ) (e : ElementValue) → element_of s.stored id ≡ Some e → (o : Option ElementValue)
          → element_of s.snapshot id ≡ o
          → (other : ElementValue) × (element_of m id ≡ Some other) × (unstamped other ≡ unstamped e)
      back id e h (Some b) there =
          let was = stored-was id b there in
          let own = before.each id b there in
          (own.0, own.1, own.2 ∙ sym was.2 ∙ ap unstamped (same_Some was.0 e (sym was.1 ∙ h)))
      back id e h None there =
          some-bare (element_of m id) (unstamped e)
          (led-at s.snapshot (taken_all given s.stored) are' new-elements new-rising new-alike n m agrees leads id e
          (dead-stays id e there h)
          ∙ ap (λ o. Some (unstamped (counted o e))) there
          ∙ ap (λ d. Some (unstamped (record e { deleted = d }))) (sym (same.others id e there h)))

      absent : (id : List ℕ) → element_of s.stored id ≡ None → (o : Option ElementValue) → element_of s.snapshot id ≡ o
          → element_of s.snapshot id ≡ None
      absent id none None there = there
      absent id none (Some b) there = let was = stored-was id b there in absurd (none-some was.0 (sym none ∙ was.1))

  -- the pair of a given element is changed, and one of it is live
  given-changed : (e : ElementValue) → Contains given e → (o : Option ElementValue) → element_of s.snapshot e.id ≡ o
      → IsChanged (pair_with o e) × (((pair_with o e).before.deleted ≡ false) ⊎ (e.deleted ≡ false))
  given-changed e c None h =
      let own = new-live e c h (element_of s.stored e.id) refl in (
        record {
          id = refl;
          kind = refl;
          differ =
              λ alike. false≢true (sym own ∙ sym (ap (λ (x : ElementValue). x.deleted) alike));
        },
        inr own,
      )
  given-changed e c (Some b) h =
      let was = stored-was e.id b h in
      let own : Alters (Some was.0) e = subst (λ o. Alters o e) was.1 (change.alters e c) in (
        record {
          id = (found-is s.snapshot e.id b are' h).1;
          kind = sym (ap (λ (x : ElementValue). x.kind) was.2) ∙ own.1;
          differ = λ alike. own.2 (was.2 ∙ alike);
        },
        inl (sym (ap (λ (x : ElementValue). x.deleted) was.2) ∙ own.0),
      )

  pub new-visible : IsVisible (pending s.snapshot (taken_all given s.stored))
  new-visible =
      let first = first-of given change.some in
      let e = first.0 in
      let pair : Pair = pair_with (element_of s.snapshot e.id) e in
      let own = given-changed e first.1 (element_of s.snapshot e.id) refl in
      let there = (find-Some (has_id e.id) (taken_all given s.stored) e (new-at e first.1)).0 in
      let c = Contains-to_map (λ (x : ElementValue). pair_with (element_of s.snapshot x.id) x)
      (taken_all given s.stored) e there in
      let of = (pairs-elements s.snapshot are' (taken_all given s.stored) new-elements pair c).0 in (
        pair,
        Contains-filter is_changed (pairs_from (element_of s.snapshot) (taken_all given s.stored)) pair c
            (changed-is pair of own.0),
        own.1,
      )

  -- the state after it
  abbrev pub made-state : State
  made-state = record s {
    stored = taken_all given s.stored;
    snapshot = taken_all given s.stored;
    undo = pending s.snapshot (taken_all given s.stored) ∷ s.undo;
    redo = [];
  }

  pub changed-state : changed given s ≡ made-state
  changed-state =
      ap (λ (t : State). record t { snapshot = taken_all given s.stored })
      (noted-some (pending s.snapshot (taken_all given s.stored)) new-visible.0 (stored_with given s) new-visible.1)
