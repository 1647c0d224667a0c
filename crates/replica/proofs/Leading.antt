-- Which elements an entry leads to, and that a step makes them, and what leads back.
use Rattle.std.proofs.Common.{◌≡◌, ℕ, Bool, true, false, not, ◌||◌, List, find, Option, Some, None, ◌⊎◌, Contains, bytes_eq, is_some, inl, inr, refl, sym, ap, ◌∙◌, subst}
use Rattle.std.specs.Option.{option_map, option_map_or}
use Rattle.std.proofs.lemmas.Bool.{true_from_ne_false, both_ways, and_from, or_left, or_right}
use Rattle.std.proofs.lemmas.Option.{none-some, same_Some}
use Rattle.json_text.proofs.CallerLemmas.{bytes_eq-true, bytes_eq-same, Contains-map, Contains-to_map}
use Rattle.frac_keys.specs.Rising.{are_rising}
use Rattle.elem.specs.ElementValue.{ElementValue}
use Rattle.elem.specs.Order.{unstamped}
use Rattle.elem.specs.Said.{AreElements}
use Rattle.elem.specs.Stamp.{stamped}
use Rattle.elem_store.specs.Updates.{element_of, ids_of}
use Rattle.elem_store.proofs.CallerLemmas.{find-Some, is_some-find, list_any-false}
use Rattle.delta.specs.Pairs.{Pair, pair_with}
use Rattle.undo_model.specs.Carrying.{taken_all}
use Rattle.undo_model.specs.Differing.{differ}
use Rattle.undo_model.specs.Entries.{IsEntry, IsGiven}
use Rattle.undo_model.specs.Steps.{Reverted, reverted, is_visible, is_seen, given, made}
use Rattle.undo_model.specs.Undoing.{undone}
use Rattle.undo_model.proofs.CallerLemmas.{differ-false, found-is, given-each, given-all, given-taken, given-rise, undone-stamp, undone-element, undone-back}
use Rattle.replica.proofs.TakenAt.{taken-at, taken-else}

-- ---- elements that are the same but for stamps
-- what is found of an id without its stamp
abbrev pub bare_of : List ElementValue → List ℕ → Option ElementValue
bare_of elements id = option_map unstamped (element_of elements id)

-- Both have the same elements but for stamps.
abbrev pub SameAs : List ElementValue → List ElementValue → Type 0
SameAs a b = (id : List ℕ) → bare_of a id ≡ bare_of b id

pub some-bare : (o : Option ElementValue) (u : ElementValue) → option_map unstamped o ≡ Some u → (e : ElementValue)
    × (o ≡ Some e) × (unstamped e ≡ u)
some-bare None u h = absurd (none-some u h)
some-bare (Some e) u h = (e, refl, same_Some (unstamped e) u h)

-- ---- where an entry leads
-- The element of the pair's id is as after it, but for the stamp.
pub record IsMet (elements : List ElementValue) (pair : Pair) : Type 0 where
  pub now : ElementValue
  pub found : element_of elements pair.after.id ≡ Some now
  pub same : unstamped now ≡ unstamped pair.after

abbrev pub Meets : List Pair → List ElementValue → Type 0
Meets pairs elements = (pair : Pair) → Contains pairs pair → IsMet elements pair

-- The element of the pair's id is as after it in the one list, and as before it in the other.
pub record Turns (pair : Pair) (a b : List ElementValue) : Type 0 where
  pub old : ElementValue
  pub new : ElementValue
  pub was : element_of a pair.after.id ≡ Some old
  pub is : element_of b pair.after.id ≡ Some new
  pub from : unstamped old ≡ unstamped pair.after
  pub to : unstamped new ≡ unstamped pair.before

abbrev pub IsApart : List Pair → List ℕ → Type 0
IsApart pairs id = (pair : Pair) → Contains pairs pair → pair.after.id ≡ id → ⊥

-- Undoing the entry leads from the one list to the other, but for stamps.
pub record Leads (pairs : List Pair) (a b : List ElementValue) : Type 0 where
  pub each : (pair : Pair) → Contains pairs pair → Turns pair a b
  pub others : (id : List ℕ) → IsApart pairs id → bare_of a id ≡ bare_of b id

-- whether a pair is of this id
abbrev is_its : List ℕ → Pair → Bool
is_its id pair = bytes_eq pair.after.id id

-- a pair of this id, or none
pub pair-or_none : (pairs : List Pair) (id : List ℕ) → ((pair : Pair) × Contains pairs pair × (pair.after.id ≡ id))
    ⊎ IsApart pairs id
pair-or_none pairs id = go (find (is_its id) pairs) refl
  where
    go : (o : Option Pair) → find (is_its id) pairs ≡ o → ((pair : Pair) × Contains pairs pair × (pair.after.id ≡ id))
        ⊎ IsApart pairs id
    go (Some pair) h =
        let own = find-Some (is_its id) pairs pair h in inl (pair, own.0, bytes_eq-true pair.after.id id own.1)
    go None h = inr (λ pair c same.
        both_ways (is_its id pair) (list_any-false (is_its id) pairs pair (sym (is_some-find (is_its id) pairs)
        ∙ ap is_some h) c)
        (ap (bytes_eq pair.after.id) (sym same) ∙ bytes_eq-same pair.after.id))

-- it leads to one list, but for stamps
pub leads-once : (pairs : List Pair) (a b c : List ElementValue) → Leads pairs a b → Leads pairs a c → SameAs b c
leads-once pairs a b c p q id = elim (pair-or_none pairs id) [
  | inl own ↦
      let one = p.each own.0 own.1 in
      let other = q.each own.0 own.1 in
      subst (λ k. bare_of b k ≡ bare_of c k) own.2
      (ap (option_map unstamped) one.is ∙ ap Some (one.to ∙ sym other.to) ∙ sym (ap (option_map unstamped) other.is))
  | inr apart ↦ sym (p.others id apart) ∙ q.others id apart
]

-- from lists that are the same but for stamps
pub met-same : (pair : Pair) (a b : List ElementValue) → SameAs a b → IsMet a pair → IsMet b pair
met-same pair a b same met =
    let own = some-bare (element_of b pair.after.id) (unstamped met.now) (sym (same pair.after.id)
    ∙ ap (option_map unstamped) met.found) in
    record { now = own.0; found = own.1; same = own.2 ∙ met.same }

pub leads-from : (pairs : List Pair) (a b c : List ElementValue) → SameAs a b → Leads pairs b c → Leads pairs a c
leads-from pairs a b c same leads = record {
  each = λ pair d.
      let own = leads.each pair d in
      let met = met-same pair b a (λ id. sym (same id)) (record { now = own.old; found = own.was; same = own.from }) in
      record { old = met.now; new = own.new; was = met.found; is = own.is; from = met.same; to = own.to };
  others = λ id apart. same id ∙ leads.others id apart;
}

-- ---- what is seen
-- One of a pair is live.
abbrev pub IsVisible : List Pair → Type 0
IsVisible pairs = (pair : Pair) × Contains pairs pair × ((pair.before.deleted ≡ false) ⊎ (pair.after.deleted ≡ false))

module _ (stored : List ElementValue) (pairs : List Pair) (are : AreElements stored) (entry : IsEntry pairs)
    (meets : Meets pairs stored) where
  module _ (pair : Pair) (c : Contains pairs pair) (now : ElementValue) (found : element_of stored pair.after.id
      ≡ Some now) (same : unstamped now ≡ unstamped pair.after) where
    back : unstamped (undone pair now) ≡ unstamped pair.before
    back = let own = entry.each pair c in undone-back pair own.0 own.1.id own.1.kind now same

    differs : differ now (undone pair now) ≡ true
    differs =
        let own = entry.each pair c in
        let is = (found-is stored pair.after.id now are found).0 in
        let made = undone-element pair now own.0 own.1.kind is.0 is.1 in
        true_from_ne_false (differ now (undone pair now)) (λ f.
        own.1.differ (sym back ∙ sym (differ-false now (undone pair now) is.0 is.1 made.0 made.1 f) ∙ same))

    visible : (pair.before.deleted ≡ false) ⊎ (pair.after.deleted ≡ false)
        → option_map_or is_visible (reverted stored pair) false ≡ true
    visible live =
        let r : Reverted = record { now = now; undone = undone pair now } in
        ap
        (λ o. option_map_or is_visible (option_map (λ (now : ElementValue). record {
          now = now;
          undone =
              undone pair now;
        }) o) false) found
        ∙ and_from (differ now (undone pair now)) (not now.deleted || not (undone pair now).deleted) differs
        (elim live [
          | inl before ↦ or_right (not now.deleted) (not (undone pair now).deleted)
              (ap not (ap (λ (e : ElementValue). e.deleted) back ∙ before))
          | inr after ↦ or_left (not now.deleted) (not (undone pair now).deleted)
              (ap not (ap (λ (e : ElementValue). e.deleted) same ∙ after))
        ])

  -- an entry that is met is seen
  pub seen-met : IsVisible pairs → is_seen stored pairs ≡ true
  seen-met own =
      let test : Pair → Bool = λ pair. option_map_or is_visible (reverted stored pair) false in
      let met = meets own.0 own.1 in
      true_from_ne_false (is_seen stored pairs) (λ f.
      both_ways (test own.0) (list_any-false test pairs own.0 f own.1)
      (visible own.0 own.1 met.now met.found met.same own.2))

  -- ---- a step
  module _ (time nonce : ℕ) (rise : are_rising (ids_of stored) ≡ true) where
    gives-at : (e : ElementValue) → Contains (given stored time nonce pairs) e
        → element_of (taken_all (given stored time nonce pairs) stored) e.id ≡ Some e
    gives-at e c =
        taken-at stored (given stored time nonce pairs) e rise (given-rise stored time nonce are pairs entry.ordered)
        (given-taken stored time nonce are pairs) c

    -- the element that a step gives of a pair
    one-given : (pair : Pair) (c : Contains pairs pair)
        → Contains (given stored time nonce pairs) (stamped time nonce (undone pair (meets pair c).now))
    one-given pair c =
        let met = meets pair c in
        given-all stored time nonce pairs (stamped time nonce (undone pair met.now)) (record {
          pair = pair;
          now = met.now;
          among = c;
          found = met.found;
          differs = differs pair c met.now met.found met.same;
          is = refl;
        })

    one-id : (pair : Pair) (c : Contains pairs pair) → (undone pair (meets pair c).now).id ≡ pair.after.id
    one-id pair c =
        let met = meets pair c in
        (undone-stamp pair met.now).id ∙ (found-is stored pair.after.id met.now are met.found).1

    one-at : (pair : Pair) (c : Contains pairs pair)
        → element_of (taken_all (given stored time nonce pairs) stored) pair.after.id
        ≡ Some (stamped time nonce (undone pair (meets pair c).now))
    one-at pair c =
        ap (element_of (taken_all (given stored time nonce pairs) stored)) (sym (one-id pair c))
        ∙ gives-at (stamped time nonce (undone pair (meets pair c).now)) (one-given pair c)

    -- a given element and the stored one of its id
    given-id : (e : ElementValue) (own : IsGiven stored time nonce pairs e) → e.id ≡ own.pair.after.id
    given-id e own =
        ap (λ (x : ElementValue). x.id) own.is ∙ (undone-stamp own.pair own.now).id
        ∙ (found-is stored own.pair.after.id own.now are own.found).1

    pub leads-on : Leads pairs stored (taken_all (given stored time nonce pairs) stored)
    leads-on = record {
      each = λ pair c.
          let met = meets pair c in
          record {
            old = met.now;
            new = stamped time nonce (undone pair met.now);
            was = met.found;
            is = one-at pair c;
            from = met.same;
            to = back pair c met.now met.found met.same;
          };
      others = λ id apart.
          ap (option_map unstamped) (sym (taken-else stored (given stored time nonce pairs) id rise (λ e c same.
          let own = given-each stored time nonce pairs e c in
          apart own.pair own.among (sym (given-id e own) ∙ same))));
    }

    -- the pair that is made of a given element
    made-of : (e : ElementValue) (c : Contains (given stored time nonce pairs) e)
        → Contains (made stored (given stored time nonce pairs)) (pair_with (element_of stored e.id) e)
    made-of e c =
        Contains-to_map (λ (x : ElementValue). pair_with (element_of stored x.id) x) (given stored time nonce pairs) e c

    given-was : (e : ElementValue) (own : IsGiven stored time nonce pairs e) → element_of stored e.id ≡ Some own.now
    given-was e own = ap (element_of stored) (given-id e own) ∙ own.found

    pub leads-back : Leads (made stored (given stored time nonce pairs))
        (taken_all (given stored time nonce pairs) stored) stored
    leads-back = record {
      each = λ pair c.
          let of = Contains-map (λ (x : ElementValue). pair_with (element_of stored x.id) x)
          (given stored time nonce pairs) pair c in
          let own = given-each stored time nonce pairs of.0 of.1 in
          let was = given-was of.0 own in
          let turns : Turns (record { before = own.now; after = of.0 })
          (taken_all (given stored time nonce pairs) stored) stored = record {
            old = of.0;
            new = own.now;
            was = gives-at of.0 of.1;
            is = was;
            from = refl;
            to = refl;
          } in
          subst (λ p. Turns p (taken_all (given stored time nonce pairs) stored) stored)
          (sym (ap (λ o. pair_with o of.0) was) ∙ of.2) turns;
      others = λ id apart.
          ap (option_map unstamped) (taken-else stored (given stored time nonce pairs) id rise (λ e c same.
          apart (pair_with (element_of stored e.id) e) (made-of e c) same));
    }

    pub visible-back : IsVisible pairs → IsVisible (made stored (given stored time nonce pairs))
    visible-back own =
        let met = meets own.0 own.1 in
        let e = stamped time nonce (undone own.0 met.now) in
        let was : element_of stored e.id ≡ Some met.now = ap (element_of stored) (one-id own.0 own.1) ∙ met.found in
        let is : pair_with (element_of stored e.id) e ≡ record { before = met.now; after = e } =
        ap (λ o. pair_with o e) was in (
          record { before = met.now; after = e },
          subst (Contains (made stored (given stored time nonce pairs))) is (made-of e (one-given own.0 own.1)),
          elim own.2 [
            | inl before ↦ inr (ap (λ (x : ElementValue). x.deleted) (back own.0 own.1 met.now met.found met.same)
                ∙ before)
            | inr after ↦ inl (ap (λ (x : ElementValue). x.deleted) met.same ∙ after)
          ],
        )
