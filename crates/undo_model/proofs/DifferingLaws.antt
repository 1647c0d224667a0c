-- Which elements differ outside the stamp.
use Rattle.std.proofs.Common.{◌≡◌, ◌≢◌, ℕ, Bool, true, false, not, ◌&&◌, List, [], ◌∷◌, map, filter, Option, Some, None, Contains, bytes_eq, refl, sym, ap, ◌∙◌, subst, lit≤}
use Rattle.std.proofs.lemmas.Bool.{false≢true, true_from_ne_false, not-false, and_parts, and_from}
use Rattle.std.proofs.lemmas.List.Elements.{All-contains}
use Rattle.json_text.proofs.CallerLemmas.{bytes_eq-true, bytes_eq-same, Contains-map}
use Rattle.frac_keys.specs.Rising.{are_rising}
use Rattle.frac_keys.proofs.CallerLemmas.{rise_between-filter}
use Rattle.elem.specs.declared.kind.Kind.{Kind}
use Rattle.elem.specs.ElementValue.{ElementValue}
use Rattle.elem.specs.Facts.{IsKind, IsElement}
use Rattle.elem.specs.Order.{unstamped, has_id}
use Rattle.elem.specs.Said.{HasValidTexts, AreElements}
use Rattle.elem.specs.Texts.{kind_name, element_text}
use Rattle.elem.proofs.CallerLemmas.{kind_of_name-once, text-of-one, element_with_stamp, texts_with_stamp, element_with_deleted, texts_with_deleted}
use Rattle.elem_store.specs.Updates.{element_of, ids_of}
use Rattle.elem_store.proofs.CallerLemmas.{same_id, Contains-filter, filter-Contains, find-Some}
use Rattle.delta.specs.Delta.{Delta}
use Rattle.delta.specs.Pairs.{Pair, pair_with, pairs_from, IsChanged, IsUnchanged, EntryStandsFor}
use Rattle.delta.specs.Parts.{counted}
use Rattle.undo_model.specs.Differing.{same_kind, differ, is_changed, pending}
use Rattle.undo_model.specs.Entries.{IsOfElements, pair_ids, IsEntry}

-- ---- kinds
pub same_kind-same : (kind : Kind) → same_kind kind kind ≡ true
same_kind-same kind = bytes_eq-same (kind_name kind)

pub same_kind-true : (a b : Kind) → IsKind a → IsKind b → same_kind a b ≡ true → a ≡ b
same_kind-true a b is is' h = kind_of_name-once a b is is' (bytes_eq-true (kind_name a) (kind_name b) h)

-- ---- elements without their stamps
unstamped-is : (e : ElementValue) → IsElement e → IsElement (unstamped e)
unstamped-is e is = element_with_stamp e 0 0 0 (lit≤ tt) (lit≤ tt) (lit≤ tt) is

unstamped-written : (e : ElementValue) → HasValidTexts e → HasValidTexts (unstamped e)
unstamped-written e w = texts_with_stamp e 0 0 0 w

pub differ-same : (a b : ElementValue) → unstamped a ≡ unstamped b → differ a b ≡ false
unfolding differ
differ-same a b same =
    ap (λ e. not (bytes_eq (element_text e) (element_text (unstamped b)))) same
    ∙ ap not (bytes_eq-same (element_text (unstamped b)))

pub differ-true : (a b : ElementValue) → differ a b ≡ true → unstamped a ≢ unstamped b
differ-true a b h same = false≢true (sym (differ-same a b same) ∙ h)

same_text : (a b : ElementValue) → differ a b ≡ false → element_text (unstamped a) ≡ element_text (unstamped b)
unfolding differ
same_text a b h = bytes_eq-true _ _ (not-false (bytes_eq (element_text (unstamped a)) (element_text (unstamped b))) h)

pub differ-false : (a b : ElementValue) → IsElement a → HasValidTexts a → IsElement b → HasValidTexts b
    → differ a b ≡ false → unstamped a ≡ unstamped b
differ-false a b is w is' w' h =
    text-of-one (unstamped a) (unstamped b) (unstamped-is a is) (unstamped-written a w) (unstamped-is b is')
    (unstamped-written b w') (same_text a b h)

-- ---- pairs
pub changed-true : (pair : Pair) → pair.before.id ≡ pair.after.id → IsElement pair.before → IsElement pair.after
    → is_changed pair ≡ true → IsChanged pair
changed-true pair id is is' h =
    let parts = and_parts (same_kind pair.before.kind pair.after.kind) (differ pair.before pair.after) h in
    record {
      id = id;
      kind = same_kind-true pair.before.kind pair.after.kind is.kind is'.kind parts.0;
      differ = differ-true pair.before pair.after parts.1;
    }

same_kinds : (a b : Kind) → a ≡ b → same_kind a b ≡ true
same_kinds a b e = ap (same_kind a) (sym e) ∙ same_kind-same a

pub changed-false : (pair : Pair) → IsOfElements pair → is_changed pair ≡ false → IsUnchanged pair
changed-false pair of h kind =
    differ-false pair.before pair.after of.0.0 of.0.1 of.1.0 of.1.1
    (sym (ap (λ b. b && differ pair.before pair.after) (same_kinds pair.before.kind pair.after.kind kind)) ∙ h)

pub changed-is : (pair : Pair) → IsOfElements pair → IsChanged pair → is_changed pair ≡ true
changed-is pair of changed =
    and_from (same_kind pair.before.kind pair.after.kind) (differ pair.before pair.after)
    (same_kinds pair.before.kind pair.after.kind changed.kind)
    (true_from_ne_false (differ pair.before pair.after)
    (λ h. changed.differ (differ-false pair.before pair.after of.0.0 of.0.1 of.1.0 of.1.1 h)))

-- ---- what has changed since a snapshot
-- a deleted element is one too
deleted-is : (e : ElementValue) → IsElement e → IsElement (record e { deleted = true })
deleted-is e is = element_with_deleted e true is

deleted-written : (e : ElementValue) → HasValidTexts e → HasValidTexts (record e { deleted = true })
deleted-written e w = texts_with_deleted e true w

-- an element of this id that is found is an element of the list, and of the id
pub found-is : (elements : List ElementValue) (id : List ℕ) (e : ElementValue) → AreElements elements
    → element_of elements id ≡ Some e → (IsElement e × HasValidTexts e) × (e.id ≡ id)
found-is elements id e are h =
    let found = find-Some (has_id id) elements e h in
    (All-contains (λ e. IsElement e × HasValidTexts e) elements e are found.0, sym (same_id id e found.1))

-- the pairs from the elements of one list to those of another one are of elements, of one id each
module _ (olds : List ElementValue) (are : AreElements olds) where
  counted-is : (new : ElementValue) (o : Option ElementValue) → element_of olds new.id ≡ o → IsElement new
      × HasValidTexts new → (IsElement (counted o new) × HasValidTexts (counted o new)) × ((counted o new).id ≡ new.id)
  counted-is new None h is = ((deleted-is new is.0, deleted-written new is.1), refl)
  counted-is new (Some old) h is = found-is olds new.id old are h

  pub pairs-elements : (news : List ElementValue) → AreElements news → (pair : Pair)
      → Contains (pairs_from (element_of olds) news) pair → IsOfElements pair × (pair.before.id ≡ pair.after.id)
  pairs-elements news are' pair c =
      let of = Contains-map (λ (e : ElementValue). pair_with (element_of olds e.id) e) news pair c in
      let is = All-contains (λ e. IsElement e × HasValidTexts e) news of.0 are' of.1 in
      let own = counted-is of.0 (element_of olds of.0.id) refl is in
      subst (λ p. IsOfElements p × (p.before.id ≡ p.after.id)) of.2 ((own.0, is), own.1)

pub pending-elements : (snapshot stored : List ElementValue) → AreElements snapshot → AreElements stored → (pair : Pair)
    → Contains (pending snapshot stored) pair → IsOfElements pair × (pair.before.id ≡ pair.after.id)
pending-elements snapshot stored are are' pair c =
    pairs-elements snapshot are stored are' pair (filter-Contains is_changed (pairs_from (element_of snapshot) stored)
    pair c).0

pub pending-changed : (snapshot stored : List ElementValue) → AreElements snapshot → AreElements stored → (pair : Pair)
    → Contains (pending snapshot stored) pair → IsChanged pair
pending-changed snapshot stored are are' pair c =
    let is = pending-elements snapshot stored are are' pair c in
    changed-true pair is.1 is.0.0.0 is.0.1.0 (filter-Contains is_changed (pairs_from (element_of snapshot) stored) pair
    c).1

pub pending-stands : (snapshot stored : List ElementValue) (parts : List Delta) → AreElements snapshot
    → AreElements stored → EntryStandsFor parts (pairs_from (element_of snapshot) stored)
    → EntryStandsFor parts (pending snapshot stored)
pending-stands snapshot stored parts are are' stands = record {
  ordered = stands.ordered;
  each_part = λ part c.
      let own = stands.each_part part c in
      let is = (pairs-elements snapshot are stored are' own.0 own.1).0 in (
        own.0,
        Contains-filter is_changed (pairs_from (element_of snapshot) stored) own.0 own.1
            (changed-is own.0 is own.2.changed),
        own.2,
      );
  each_pair =
      λ pair c. stands.each_pair pair (filter-Contains is_changed (pairs_from (element_of snapshot) stored) pair c).0;
}

-- some of a list whose ids rise have rising ids
pub rising-filter : {X : Type 0} (id_of : X → List ℕ) (p : X → Bool) (xs : List X) → are_rising (map id_of xs) ≡ true
    → are_rising (map id_of (filter p xs)) ≡ true
rising-filter id_of p xs h = rise_between-filter id_of p None xs h

pub ids-from : (before : List ℕ → Option ElementValue) (elements : List ElementValue)
    → pair_ids (pairs_from before elements) ≡ ids_of elements
ids-from before [] = refl
ids-from before (e ∷ elements) = ap (λ ids. e.id ∷ ids) (ids-from before elements)

pub pending-rise : (snapshot stored : List ElementValue) → are_rising (ids_of stored) ≡ true
    → are_rising (pair_ids (pending snapshot stored)) ≡ true
pending-rise snapshot stored h =
    rising-filter (λ (pair : Pair). pair.after.id) is_changed (pairs_from (element_of snapshot) stored)
    (ap are_rising (ids-from (element_of snapshot) stored) ∙ h)

-- what is pending is an entry
pub pending-entry : (snapshot stored : List ElementValue) → AreElements snapshot → AreElements stored
    → are_rising (ids_of stored) ≡ true → IsEntry (pending snapshot stored)
pending-entry snapshot stored are are' rise = record {
  each =
      λ pair c. ((pending-elements snapshot stored are are' pair c).0, pending-changed snapshot stored are are' pair c);
  ordered = pending-rise snapshot stored rise;
}
