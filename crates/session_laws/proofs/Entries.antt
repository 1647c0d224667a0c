-- Entries of pairs of one id each, in the order of their ids: what is pending is one, and a step over such entries
-- leaves such.
use Rattle.std.proofs.Common.{◌≡◌, ℕ, ◌+◌, true, ◌&&◌, List, [], ◌∷◌, map, Option, Some, None, Ok, Contains, inl, inr, refl, sym, ap, ◌∙◌, subst, arith}
use Rattle.std.specs.List.{cons_option, AllByRecursion}
use Rattle.std.proofs.lemmas.Bool.{cases_Bool, and_parts, and_from, cond-true, cond-false}
use Rattle.std.proofs.lemmas.Option.{none-some, same_Some}
use Rattle.frac_keys.specs.Rising.{ends_rise, rise_between, are_rising}
use Rattle.json_text.proofs.CallerLemmas.{Contains-map}
use Rattle.elem.specs.ElementValue.{ElementValue}
use Rattle.elem.specs.Order.{has_id}
use Rattle.elem_store.specs.Updates.{element_of, ids_of}
use Rattle.elem_store.proofs.CallerLemmas.{same_id, Contains-head, Contains-cases, find-Some, filter-Contains}
use Rattle.delta.specs.Pairs.{Pair, pair_with, pairs_from, exchanged}
use Rattle.delta.specs.Parts.{counted}
use Rattle.undo_model.specs.Differing.{is_changed, pending}
use Rattle.undo_model.specs.Entries.{pair_ids, IsGiven}
use Rattle.undo_model.specs.Steps.{is_seen, given_of, given, Sought, sought, Turn, step}
use Rattle.undo_model.proofs.CallerLemmas.{ids-from, pending-rise, given-each, step-turn, undone-stamp, ids-exchanged}
use Rattle.frac_keys.proofs.CallerLemmas.{rise_between-lower}

-- the pairs are of one id each, in the order of the ids; so are those of each entry of a stack
pub record IsOrdered (pairs : List Pair) : Type 0 where
  pub same : (pair : Pair) → Contains pairs pair → pair.before.id ≡ pair.after.id
  pub rise : are_rising (pair_ids pairs) ≡ true

abbrev pub AreOrdered : List (List Pair) → Type 0
AreOrdered stack = AllByRecursion IsOrdered stack

-- ---- elements with those before
counted-id : (olds : List ElementValue) (new : ElementValue) (o : Option ElementValue) → element_of olds new.id ≡ o
    → (counted o new).id ≡ new.id
counted-id olds new None found = refl
counted-id olds new (Some old) found = sym (same_id new.id old (find-Some (has_id new.id) olds old found).1)

pairs-same : (olds news : List ElementValue) (pair : Pair) → Contains (pairs_from (element_of olds) news) pair
    → pair.before.id ≡ pair.after.id
pairs-same olds news pair c =
    let of = Contains-map (λ (e : ElementValue). pair_with (element_of olds e.id) e) news pair c in
    subst (λ (p : Pair). p.before.id ≡ p.after.id) of.2 (counted-id olds of.0 (element_of olds of.0.id) refl)

pairs-ordered : (olds news : List ElementValue) → are_rising (ids_of news) ≡ true
    → IsOrdered (pairs_from (element_of olds) news)
pairs-ordered olds news rise = record {
  same = pairs-same olds news;
  rise = ap are_rising (ids-from (element_of olds) news) ∙ rise;
}

pub pending-ordered : (snapshot stored : List ElementValue) → are_rising (ids_of stored) ≡ true
    → IsOrdered (pending snapshot stored)
pending-ordered snapshot stored rise = record {
  same = λ pair c. pairs-same snapshot stored pair (filter-Contains is_changed (pairs_from (element_of snapshot) stored)
      pair c).0;
  rise = pending-rise snapshot stored rise;
}

-- ---- the other way round

exchanged-ordered : (pairs : List Pair) → IsOrdered pairs → IsOrdered (map exchanged pairs)
exchanged-ordered pairs ordered = record {
  same = λ pair c.
      let of = Contains-map exchanged pairs pair c in
      subst (λ (p : Pair). p.before.id ≡ p.after.id) of.2 (sym (ordered.same of.0 of.1));
  rise = ap are_rising (ids-exchanged pairs ordered.same) ∙ ordered.rise;
}

-- ---- the topmost entry that is seen
record AreSoughtOrdered (s : Sought) : Type 0 where
  entry : IsOrdered s.entry
  below : AreOrdered s.below
  to : AreOrdered s.to

sought-ordered : (stored : List ElementValue) (stack to : List (List Pair)) (s : Sought) → AreOrdered stack
    → AreOrdered to → sought stored stack to ≡ Some s → AreSoughtOrdered s
sought-ordered stored [] to s are are' h = absurd (none-some s h)
sought-ordered stored (entry ∷ stack) to s are are' h =
    let here : Sought = record { entry = entry; below = stack; to = to } in
    elim (cases_Bool (is_seen stored entry)) [
      | inl t ↦
          subst AreSoughtOrdered (same_Some here s
          (sym (cond-true (is_seen stored entry) (Some here) (sought stored stack (map exchanged entry ∷ to)) t)
          ∙ h))
          (record { entry = are.0; below = are.1; to = are' })
      | inr f ↦
          sought-ordered stored stack (map exchanged entry ∷ to) s are.1 (exchanged-ordered entry are.0, are')
          (sym (cond-false (is_seen stored entry) (Some here) (sought stored stack (map exchanged entry ∷ to)) f) ∙ h)
    ]

-- ---- what a step gives
module _ (stored : List ElementValue) (time nonce : ℕ) where
  now-id : (pairs : List Pair) (e : ElementValue) (gives : IsGiven stored time nonce pairs e)
      → gives.now.id ≡ gives.pair.after.id
  now-id pairs e gives =
      sym (same_id gives.pair.after.id gives.now (find-Some (has_id gives.pair.after.id) stored gives.now
      gives.found).1)

  own-id : (pairs : List Pair) (e : ElementValue) (gives : IsGiven stored time nonce pairs e) → e.id ≡ gives.now.id
  own-id pairs e gives = ap (λ (x : ElementValue). x.id) gives.is ∙ (undone-stamp gives.pair gives.now).id

  -- it is one version on from the stored one of its id, and has the nonce
  pub given-found : (pairs : List Pair) (e : ElementValue) (gives : IsGiven stored time nonce pairs e)
      → element_of stored e.id ≡ Some gives.now
  given-found pairs e gives = ap (element_of stored) (own-id pairs e gives ∙ now-id pairs e gives) ∙ gives.found

  pub given-version : (pairs : List Pair) (e : ElementValue) (gives : IsGiven stored time nonce pairs e)
      → e.version ≡ gives.now.version + 1
  given-version pairs e gives =
      ap (λ (x : ElementValue). x.version) gives.is ∙ ap (λ v. v + 1) (undone-stamp gives.pair gives.now).version

  pub given-nonce : (pairs : List Pair) (e : ElementValue) (gives : IsGiven stored time nonce pairs e) → e.nonce ≡ nonce
  given-nonce pairs e gives = ap (λ (x : ElementValue). x.nonce) gives.is

  -- what comes of a pair has its id
  given-id : (pair : Pair) (e : ElementValue) → given_of stored time nonce pair ≡ Some e → e.id ≡ pair.after.id
  given-id pair e is =
      let among : Contains (given stored time nonce (pair ∷ [])) e =
      subst (λ (o : Option ElementValue). Contains (cons_option o []) e) (sym is) (Contains-head e []) in
      let gives = given-each stored time nonce (pair ∷ []) e among in
      elim (Contains-cases pair [] gives.pair gives.among) [
        | inl same ↦ own-id (pair ∷ []) e gives ∙ now-id (pair ∷ []) e gives ∙ ap (λ (p : Pair). p.after.id) (sym same)
        | inr later ↦ absurd (omega (arith, later.1))
      ]

  given-rising : (a : Option (List ℕ)) (pairs : List Pair) → rise_between a None (pair_ids pairs) ≡ true
      → rise_between a None (ids_of (given stored time nonce pairs)) ≡ true
  given-rising a [] rise = rise
  given-rising a (pair ∷ pairs) rise =
      let parts =
      and_parts (ends_rise a (Some pair.after.id)) (rise_between (Some pair.after.id) None (pair_ids pairs)) rise in
      go parts.0 (given-rising (Some pair.after.id) pairs parts.1) (given_of stored time nonce pair) refl
    where
      go : ends_rise a (Some pair.after.id) ≡ true
          → rise_between (Some pair.after.id) None (ids_of (given stored time nonce pairs)) ≡ true
          → (o : Option ElementValue) → given_of stored time nonce pair ≡ o
          → rise_between a None (ids_of (cons_option o (given stored time nonce pairs))) ≡ true
      go first rest None is = rise_between-lower a pair.after.id (ids_of (given stored time nonce pairs)) first rest
      go first rest (Some e) is =
          subst (λ k. (ends_rise a (Some k) && rise_between (Some k) None (ids_of (given stored time nonce pairs)))
          ≡ true) (sym (given-id pair e is))
          (and_from (ends_rise a (Some pair.after.id))
          (rise_between (Some pair.after.id) None (ids_of (given stored time nonce pairs))) first rest)

  -- ---- one step
  -- it gives elements in the order of their ids, of pairs of an entry, and leaves ordered entries
  pub record IsOrderedTurn (turn : Turn) : Type 0 where
    pub pairs : List Pair
    pub gives : (e : ElementValue) → Contains turn.given e → IsGiven stored time nonce pairs e
    pub rise : are_rising (ids_of turn.given) ≡ true
    pub from : AreOrdered turn.from
    pub to : AreOrdered turn.to

  pub turn-ordered : (from to : List (List Pair)) (turn : Turn) → AreOrdered from → AreOrdered to
      → step stored time nonce from to ≡ Some (Ok turn) → IsOrderedTurn turn
  turn-ordered from to turn are are' h =
      let t = step-turn stored time nonce from to turn h in
      let own = sought-ordered stored from to t.seen are are' t.is_sought in
      let rise : are_rising (ids_of (given stored time nonce t.seen.entry)) ≡ true =
      given-rising None t.seen.entry own.entry.rise in
      subst IsOrderedTurn (sym t.is) (record {
        pairs = t.seen.entry;
        gives = given-each stored time nonce t.seen.entry;
        rise = rise;
        from = own.below;
        to = (pairs-ordered stored (given stored time nonce t.seen.entry) rise, own.to);
      })
