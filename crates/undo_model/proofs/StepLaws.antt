-- What a step gives, and the entries that it leaves.
use Rattle.std.proofs.Common.{◌≡◌, ℕ, ◌+◌, ◌==◌, ◌<◌, ◌≤◌, Bool, true, false, cond, ◌&&◌, List, [], ◌∷◌, map, filter_map, find, Option, Some, None, Ok, Err, is_some, Contains, inl, inr, refl, sym, ap, ap₂, ◌∙◌, subst, subst₂, arith}
use Rattle.std.specs.List.{cons_option}
use Rattle.std.specs.Option.{option_map, option_map_or, option_and_then}
use Rattle.std.proofs.lemmas.Bool.{cases_Bool, false≢true, and_parts, and_from, or_left, cond-true, cond-false, both_ways, false_from_ne_true, eqb-true, eqb-false, eq-eqb, lt-ltb}
use Rattle.std.proofs.lemmas.List.Elements.{All-contains_itself, All-weaker, All-head, All-tail, All-cons}
use Rattle.std.proofs.lemmas.Option.{none-some, same_Some, cond_some}
use Rattle.frac_keys.specs.Keys.{bytes_less}
use Rattle.frac_keys.specs.Rising.{ends_rise, rise_between, are_rising}
use Rattle.frac_keys.proofs.CallerLemmas.{bytes_less_itself, bytes_less-asym, rise_between-lower}
use Rattle.json_text.proofs.CallerLemmas.{Contains-map}
use Rattle.elem.specs.ElementValue.{ElementValue}
use Rattle.elem.specs.Facts.{IsElement, greatest_whole}
use Rattle.elem.specs.Order.{unstamped}
use Rattle.elem.specs.Said.{HasValidTexts, AreElements}
use Rattle.elem.specs.Stamp.{stamped}
use Rattle.elem.proofs.CallerLemmas.{element_with_stamp, texts_with_stamp}
use Rattle.elem_store.specs.Updates.{element_of, ids_of, is_taken, is_newer}
use Rattle.elem_store.proofs.CallerLemmas.{Contains-head, Contains-cons, Contains-cases, find-Some, is_some-find, list_any-false}
use Rattle.delta.specs.Pairs.{Pair, IsChanged, pair_with, exchanged}
use Rattle.delta.proofs.CallerLemmas.{later_greater}
use Rattle.undo_model.specs.Differing.{differ}
use Rattle.undo_model.specs.Entries.{IsOfElements, pair_ids, IsEntry, AreEntries, IsGiven, IsFullId, IsSoundTurn}
use Rattle.undo_model.specs.Steps.{Reverted, reverted, changes, is_full, is_seen, given_of, given, full_id, Sought, sought, Turn, made, turn_of, turn_unless, step}
use Rattle.undo_model.specs.Undoing.{undone}
use Rattle.undo_model.proofs.DifferingLaws.{differ-true, found-is, ids-from}
use Rattle.undo_model.proofs.UndoneLaws.{undone-stamp, undone-element}

-- ---- what a function gives of the items of a list
module _ {X Y : Type 0} (h : X → Option Y) where
  given-from : (xs : List X) (y : Y) → Contains (filter_map h xs) y → (x : X) × Contains xs x × (h x ≡ Some y)
  given-from [] y c = absurd (omega (arith, c.1))
  given-from (x ∷ xs) y c = go (given-from xs y) (h x) refl c
    where
      go : (Contains (filter_map h xs) y → (x' : X) × Contains xs x' × (h x' ≡ Some y)) → (o : Option Y) → h x ≡ o
          → Contains (cons_option o (filter_map h xs)) y → (x' : X) × Contains (x ∷ xs) x' × (h x' ≡ Some y)
      go rest None is c = let later = rest c in (later.0, Contains-cons x xs later.0 later.1, later.2)
      go rest (Some z) is c = elim (Contains-cases z (filter_map h xs) y c) [
        | inl same ↦ (x, Contains-head x xs, is ∙ ap Some same)
        | inr later ↦ let own = rest later in (own.0, Contains-cons x xs own.0 own.1, own.2)
      ]

  given-to : (xs : List X) (x : X) (y : Y) → Contains xs x → h x ≡ Some y → Contains (filter_map h xs) y
  given-to [] x y c is = absurd (omega (arith, c.1))
  given-to (z ∷ xs) x y c is = elim (Contains-cases z xs x c) [
    | inl same ↦ subst (λ o. Contains (cons_option o (filter_map h xs)) y) (sym (ap h same ∙ is))
        (Contains-head y (filter_map h xs))
    | inr later ↦ behind (h z) (given-to xs x y later is)
  ]
    where
      behind : (o : Option Y) → Contains (filter_map h xs) y → Contains (cons_option o (filter_map h xs)) y
      behind None c = c
      behind (Some w) c = Contains-cons w (filter_map h xs) y c

  -- ids rise where they are those of the items
  given-rising : (id : X → List ℕ) (id' : Y → List ℕ) → ((x : X) (y : Y) → h x ≡ Some y → id' y ≡ id x)
      → (a : Option (List ℕ)) (xs : List X)
      → rise_between a None (map id xs) ≡ true → rise_between a None (map id' (filter_map h xs)) ≡ true
  given-rising id id' same a [] rise = rise
  given-rising id id' same a (x ∷ xs) rise =
      let parts = and_parts (ends_rise a (Some (id x))) (rise_between (Some (id x)) None (map id xs)) rise in
      go parts.0 (given-rising id id' same (Some (id x)) xs parts.1) (h x) refl
    where
      go : ends_rise a (Some (id x)) ≡ true → rise_between (Some (id x)) None (map id' (filter_map h xs)) ≡ true
          → (o : Option Y) → h x ≡ o → rise_between a None (map id' (cons_option o (filter_map h xs))) ≡ true
      go first rest None is = rise_between-lower a (id x) (map id' (filter_map h xs)) first rest
      go first rest (Some y) is =
          subst (λ k. (ends_rise a (Some k) && rise_between (Some k) None (map id' (filter_map h xs))) ≡ true)
          (sym (same x y is))
          (and_from (ends_rise a (Some (id x))) (rise_between (Some (id x)) None (map id' (filter_map h xs))) first
          rest)

-- ---- the elements that a step gives
module _ (stored : List ElementValue) (time nonce : ℕ) where
  -- what comes of a pair, from what is stored of its id
  given_at : Pair → Option ElementValue → Option ElementValue
  given_at pair o = option_and_then (λ (r : Reverted). cond (changes r) (Some (stamped time nonce r.undone)) None)
      (option_map (λ (now : ElementValue). record { now = now; undone = undone pair now }) o)

  given_of-some : (pair : Pair) (e : ElementValue) → given_of stored time nonce pair ≡ Some e
      → (now : ElementValue) × (element_of stored pair.after.id ≡ Some now) × (differ now (undone pair now) ≡ true)
      × (e ≡ stamped time nonce (undone pair now))
  unfolding given_at
  given_of-some pair e is = go (element_of stored pair.after.id) refl is
    where
      go : (o : Option ElementValue) → element_of stored pair.after.id ≡ o → given_at pair o ≡ Some e
          → (now : ElementValue) × (element_of stored pair.after.id ≡ Some now) × (differ now (undone pair now) ≡ true)
          × (e ≡ stamped time nonce (undone pair now))
      go None found is = absurd (none-some e is)
      go (Some now) found is =
          let own = cond_some (differ now (undone pair now)) (stamped time nonce (undone pair now)) e is in
          (now, found, own.0, sym own.1)

  given_of-is : (pair : Pair) (now : ElementValue) → element_of stored pair.after.id ≡ Some now
      → differ now (undone pair now) ≡ true → given_of stored time nonce pair
      ≡ Some (stamped time nonce (undone pair now))
  unfolding given_at
  given_of-is pair now found differs =
      ap (given_at pair) found ∙ cond-true (differ now (undone pair now)) (Some (stamped time nonce (undone pair now)))
      None differs

  -- each is what undoing a pair makes of the stored element
  pub given-each : (pairs : List Pair) (e : ElementValue) → Contains (given stored time nonce pairs) e
      → IsGiven stored time nonce pairs e
  given-each pairs e c =
      let of = given-from (given_of stored time nonce) pairs e c in
      let own = given_of-some of.0 e of.2 in
      record { pair = of.0; now = own.0; among = of.1; found = own.1; differs = own.2; is = own.3 }

  -- and all that is changed is given
  pub given-all : (pairs : List Pair) (e : ElementValue) → IsGiven stored time nonce pairs e
      → Contains (given stored time nonce pairs) e
  given-all pairs e gives =
      given-to (given_of stored time nonce) pairs gives.pair e gives.among
      (given_of-is gives.pair gives.now gives.found gives.differs ∙ ap Some (sym gives.is))

  module _ (are : AreElements stored) where
    -- it has the id of the pair and of the stored element
    given-id : (pair : Pair) (e : ElementValue) → given_of stored time nonce pair ≡ Some e → e.id ≡ pair.after.id
    given-id pair e is =
        let own = given_of-some pair e is in
        ap (λ (x : ElementValue). x.id) own.3 ∙ (undone-stamp pair own.0).id
        ∙ (found-is stored pair.after.id own.0 are own.1).1

    pub given-rise : (pairs : List Pair) → are_rising (pair_ids pairs) ≡ true
        → are_rising (ids_of (given stored time nonce pairs)) ≡ true
    given-rise pairs rise = given-rising (given_of stored time nonce) (λ (pair : Pair). pair.after.id)
        (λ (e : ElementValue). e.id) given-id None pairs rise

    stored-of : (pairs : List Pair) (e : ElementValue) (gives : IsGiven stored time nonce pairs e)
        → (gives.now.id ≡ e.id) × (element_of stored e.id ≡ Some gives.now)
    stored-of pairs e gives =
        let id : gives.now.id ≡ e.id =
        sym (undone-stamp gives.pair gives.now).id ∙ sym (ap (λ (x : ElementValue). x.id) gives.is) in
        let own : gives.now.id ≡ gives.pair.after.id =
        (found-is stored gives.pair.after.id gives.now are gives.found).1 in
        (id, ap (element_of stored) (sym id ∙ own) ∙ gives.found)

    -- it beats the stored one
    pub given-taken : (pairs : List Pair) (e : ElementValue) → Contains (given stored time nonce pairs) e
        → is_taken stored e ≡ true
    given-taken pairs e c =
        let gives = given-each pairs e c in
        let own = stored-of pairs e gives in
        let version : e.version ≡ gives.now.version + 1 = ap (λ (x : ElementValue). x.version) gives.is
        ∙ ap (λ v. v + 1) (undone-stamp gives.pair gives.now).version in
        let more : gives.now.version < e.version = omega arith in
        ap (is_newer e) own.1 ∙ or_left _ _ (lt-ltb gives.now.version e.version more)

-- ---- versions that are full
below : (v limit : ℕ) → v ≤ limit → (v == limit) ≡ false → v + 1 ≤ limit
below v limit le f = let apart = eqb-false v limit f in omega (arith, apart)

none-found : {X Y : Type 0} (f : X → Y) (o : Option X) → option_map f o ≡ None → is_some o ≡ false
none-found f None h = refl
none-found f (Some x) h = absurd (none-some (f x) (sym h))

found-of : {X Y : Type 0} (f : X → Y) (o : Option X) (y : Y) → option_map f o ≡ Some y → (x : X) × (o ≡ Some x)
    × (f x ≡ y)
found-of f None y h = absurd (none-some y h)
found-of f (Some x) y h = (x, refl, same_Some (f x) y h)

-- in the order of ids what is found has the least id of all that pass
module _ {X : Type 0} (id_of : X → List ℕ) (p : X → Bool) where
  found-least : (xs : List X) (x y : X) → are_rising (map id_of xs) ≡ true → find p xs ≡ Some x → Contains xs y
      → p y ≡ true → bytes_less (id_of y) (id_of x) ≡ false
  found-least [] x y rise found c passes = absurd (none-some x found)
  found-least (z ∷ xs) x y rise found c passes = elim (cases_Bool (p z)) [
    | inl t ↦
        let here : z ≡ x = same_Some z x (sym (cond-true (p z) (Some z) (find p xs) t) ∙ found) in
        subst (λ w. bytes_less (id_of y) (id_of w) ≡ false) here (elim (Contains-cases z xs y c) [
          | inl same ↦ subst (λ w. bytes_less (id_of w) (id_of z) ≡ false) same (bytes_less_itself (id_of z))
          | inr later ↦ bytes_less-asym (id_of z) (id_of y) (later_greater id_of [] z xs y rise later)
        ])
    | inr f ↦ elim (Contains-cases z xs y c) [
      | inl same ↦ absurd (both_ways (p z) f (ap p same ∙ passes))
      | inr later ↦
          let rest = (and_parts (ends_rise None (Some (id_of z))) (rise_between (Some (id_of z)) None (map id_of xs))
          rise).1 in
          found-least xs x y (rise_between-lower None (id_of z) (map id_of xs) refl rest)
          (sym (cond-false (p z) (Some z) (find p xs) f) ∙ found) later passes
    ]
  ]

module _ (stored : List ElementValue) where
  -- whether undoing a pair would change what is stored of its id, which stands at the greatest version
  abbrev is_full_pair : Pair → Bool
  is_full_pair pair = option_map_or is_full (reverted stored pair) false

  full_pair-at : (pair : Pair) (now : ElementValue) → element_of stored pair.after.id ≡ Some now
      → is_full_pair pair ≡ (differ now (undone pair now) && (now.version == greatest_whole))
  full_pair-at pair now found =
      ap
      (λ o. option_map_or is_full (option_map (λ (now : ElementValue). record { now = now; undone = undone pair now })
      o) false) found

  module _ (pairs : List Pair) where
    full-passes : (id : List ℕ) (full : IsFullId stored pairs id) → is_full_pair full.pair ≡ true
    full-passes id full = full_pair-at full.pair full.now full.found
        ∙ and_from _ _ full.differs (eq-eqb full.now.version greatest_whole full.version)

    -- no id is full where none is found
    pub full-none : full_id stored pairs ≡ None → (id : List ℕ) → IsFullId stored pairs id → ⊥
    full-none none id full =
        let nowhere = sym (is_some-find is_full_pair pairs)
        ∙ none-found (λ (p : Pair). p.after.id) (find is_full_pair pairs) none in
        both_ways (is_full_pair full.pair) (list_any-false is_full_pair pairs full.pair nowhere full.among)
        (full-passes id full)

    -- one that is found is full
    pub full-is : (id : List ℕ) → full_id stored pairs ≡ Some id → IsFullId stored pairs id
    full-is id h =
        let of = found-of (λ (p : Pair). p.after.id) (find is_full_pair pairs) id h in
        let own = find-Some is_full_pair pairs of.0 of.1 in
        go of.0 own.0 of.2 own.1 (element_of stored of.0.after.id) refl
      where
        go : (pair : Pair) → Contains pairs pair → pair.after.id ≡ id → is_full_pair pair ≡ true
            → (o : Option ElementValue) → element_of stored pair.after.id ≡ o → IsFullId stored pairs id
        go pair c same full None found =
            absurd
            (false≢true
            (sym
            (ap
            (λ o. option_map_or is_full (option_map (λ (now : ElementValue). record {
              now = now;
              undone =
                  undone pair now;
            }) o) false) found) ∙ full))
        go pair c same full (Some now) found =
            let parts = and_parts (differ now (undone pair now)) (now.version == greatest_whole)
            (sym (full_pair-at pair now found) ∙ full) in
            record {
              pair = pair;
              now = now;
              among = c;
              id = same;
              found = found;
              differs = parts.0;
              version =
                  eqb-true now.version greatest_whole parts.1;
            }

    -- and the least one
    pub full-least : are_rising (pair_ids pairs) ≡ true → (id : List ℕ) → full_id stored pairs ≡ Some id
        → (other : List ℕ) → IsFullId stored pairs other → bytes_less other id ≡ false
    full-least rise id h other full =
        let of = found-of (λ (p : Pair). p.after.id) (find is_full_pair pairs) id h in
        subst₂ (λ a b. bytes_less a b ≡ false) full.id of.2
        (found-least (λ (p : Pair). p.after.id) is_full_pair pairs of.0 full.pair rise of.1 full.among
        (full-passes other full))

stamped-is : (time nonce : ℕ) (e : ElementValue) → time ≤ greatest_whole → nonce ≤ greatest_whole
    → e.version + 1 ≤ greatest_whole → IsElement e → IsElement (stamped time nonce e)
stamped-is time nonce e t n v is = element_with_stamp e (e.version + 1) nonce time v n t is

stamped-written : (time nonce : ℕ) (e : ElementValue) → HasValidTexts e → HasValidTexts (stamped time nonce e)
stamped-written time nonce e w = texts_with_stamp e (e.version + 1) nonce time w

module _ (stored : List ElementValue) (time nonce : ℕ) (pairs : List Pair) (are : AreElements stored)
    (entry : IsEntry pairs)
    (in_time : time ≤ greatest_whole) (in_nonce : nonce ≤ greatest_whole) (free : full_id stored pairs ≡ None) where
  not-full : (pair : Pair) (now : ElementValue) → Contains pairs pair → element_of stored pair.after.id ≡ Some now
      → differ now (undone pair now) ≡ true → (now.version == greatest_whole) ≡ false
  not-full pair now c found differs =
      false_from_ne_true (now.version == greatest_whole) (λ t. full-none stored pairs free pair.after.id (record {
        pair = pair;
        now = now;
        among = c;
        id = refl;
        found = found;
        differs = differs;
        version = eqb-true now.version greatest_whole t;
      }))

  given-is : (e : ElementValue) → Contains (given stored time nonce pairs) e → IsElement e × HasValidTexts e
  given-is e c =
      let gives = given-each stored time nonce pairs e c in
      let own = entry.each gives.pair gives.among in
      let isnow = (found-is stored gives.pair.after.id gives.now are gives.found).0 in
      let isundone = undone-element gives.pair gives.now own.0 own.1.kind isnow.0 isnow.1 in
      let version = below gives.now.version greatest_whole isnow.0.version
      (not-full gives.pair gives.now gives.among gives.found gives.differs) in
      let within = subst (λ v. v + 1 ≤ greatest_whole) (sym (undone-stamp gives.pair gives.now).version) version in
      subst (λ x. IsElement x × HasValidTexts x) (sym gives.is) (
        stamped-is time nonce (undone gives.pair gives.now) in_time in_nonce within isundone.0,
        stamped-written time nonce (undone gives.pair gives.now) isundone.1,
      )

  -- they are elements
  pub given-elements : AreElements (given stored time nonce pairs)
  given-elements =
      let gives = given stored time nonce pairs in
      All-weaker (Contains gives) (λ e. IsElement e × HasValidTexts e) given-is gives (All-contains_itself gives)

  made-each : (pair : Pair) → Contains (made stored (given stored time nonce pairs)) pair → IsOfElements pair
      × IsChanged pair
  made-each pair c =
      let of = Contains-map (λ (e : ElementValue). pair_with (element_of stored e.id) e) (given stored time nonce pairs)
      pair c in
      let gives = given-each stored time nonce pairs of.0 of.1 in
      let own = stored-of stored time nonce are pairs of.0 gives in
      let isnow = (found-is stored gives.pair.after.id gives.now are gives.found).0 in
      let is : record { before = gives.now; after = of.0 } ≡ pair = sym (ap (λ o. pair_with o of.0) own.1) ∙ of.2 in
      let stamp = undone-stamp gives.pair gives.now in
      let changed : IsChanged (record { before = gives.now; after = of.0 }) = record {
        id = own.0;
        kind = sym stamp.kind ∙ ap (λ (x : ElementValue). x.kind) (sym gives.is);
        differ =
            λ same. differ-true gives.now (undone gives.pair gives.now) gives.differs (same ∙ ap unstamped gives.is);
      } in
      subst (λ p. IsOfElements p × IsChanged p) is ((isnow, given-is of.0 of.1), changed)

  -- and what takes them back is an entry
  pub made-entry : IsEntry (made stored (given stored time nonce pairs))
  made-entry = record {
    each = made-each;
    ordered = ap are_rising (ids-from (element_of stored) (given stored time nonce pairs))
        ∙ given-rise stored time nonce are pairs entry.ordered;
  }

-- ---- entries the other way round
pub ids-exchanged : (pairs : List Pair) → ((pair : Pair) → Contains pairs pair → pair.before.id ≡ pair.after.id)
    → pair_ids (map exchanged pairs) ≡ pair_ids pairs
ids-exchanged [] same = refl
ids-exchanged (pair ∷ pairs) same =
    ap₂ (λ (id : List ℕ) (ids : List (List ℕ)). id ∷ ids) (same pair (Contains-head pair pairs))
    (ids-exchanged pairs (λ p c. same p (Contains-cons pair pairs p c)))

pub exchanged-entry : (pairs : List Pair) → IsEntry pairs → IsEntry (map exchanged pairs)
exchanged-entry pairs entry = record {
  each = λ pair c.
      let of = Contains-map exchanged pairs pair c in
      let own = entry.each of.0 of.1 in
      subst (λ p. IsOfElements p × IsChanged p) of.2
      ((own.0.1, own.0.0), record { id = sym own.1.id; kind = sym own.1.kind; differ = λ e. own.1.differ (sym e) });
  ordered = ap are_rising (ids-exchanged pairs (λ pair c. (entry.each pair c).1.id)) ∙ entry.ordered;
}

-- ---- the topmost entry that is seen
pub record AreSought (s : Sought) : Type 0 where
  pub entry : IsEntry s.entry
  pub below : AreEntries s.below
  pub to : AreEntries s.to

pub sought-entries : (stored : List ElementValue) (stack to : List (List Pair)) (s : Sought) → AreEntries stack
    → AreEntries to → sought stored stack to ≡ Some s → AreSought s
sought-entries stored [] to s are are' h = absurd (none-some s h)
sought-entries stored (entry ∷ stack) to s are are' h =
    let first = All-head IsEntry entry stack are in
    let rest = All-tail IsEntry entry stack are in
    let here : Sought = record { entry = entry; below = stack; to = to } in
    elim (cases_Bool (is_seen stored entry)) [
      | inl t ↦
          subst AreSought (same_Some here s
          (sym (cond-true (is_seen stored entry) (Some here) (sought stored stack (map exchanged entry ∷ to)) t)
          ∙ h))
          (record { entry = first; below = rest; to = are' })
      | inr f ↦
          sought-entries stored stack (map exchanged entry ∷ to) s rest
          (All-cons IsEntry (map exchanged entry) to (exchanged-entry entry first) are')
          (sym (cond-false (is_seen stored entry) (Some here) (sought stored stack (map exchanged entry ∷ to)) f) ∙ h)
    ]

-- ---- one step
-- from the topmost entry that is seen
pub record IsTurnFrom (stored : List ElementValue) (time nonce : ℕ) (from to : List (List Pair)) (turn : Turn) :
    Type 0 where
  pub seen : Sought
  pub is_sought : sought stored from to ≡ Some seen
  pub free : full_id stored seen.entry ≡ None
  pub is : turn ≡ turn_of stored time nonce seen

module _ (stored : List ElementValue) (time nonce : ℕ) (from to : List (List Pair)) (turn : Turn) where
  pub step-turn : step stored time nonce from to ≡ Some (Ok turn) → IsTurnFrom stored time nonce from to turn
  step-turn h = go (sought stored from to) refl h
    where
      free-or : (s : Sought) (o : Option (List ℕ)) → full_id stored s.entry ≡ o → sought stored from to ≡ Some s
          → turn_unless o (turn_of stored time nonce s) ≡ Ok turn → IsTurnFrom stored time nonce from to turn
      free-or s None free is h = record { seen = s; is_sought = is; free = free; is = cc }
      free-or s (Some id) free is h = absurd (cc)

      go : (o : Option Sought) → sought stored from to ≡ o
          → option_map (λ (s : Sought). turn_unless (full_id stored s.entry) (turn_of stored time nonce s)) o
          ≡ Some (Ok turn) → IsTurnFrom stored time nonce from to turn
      go None is h = absurd (cc)
      go (Some s) is h = free-or s (full_id stored s.entry) refl is (same_Some _ _ h)

  pub step-sound : AreElements stored → AreEntries from → AreEntries to → time ≤ greatest_whole → nonce ≤ greatest_whole
      → step stored time nonce from to ≡ Some (Ok turn) → IsSoundTurn turn
  step-sound are entries others in_time in_nonce h =
      let t = step-turn h in
      let own = sought-entries stored from to t.seen entries others t.is_sought in
      subst IsSoundTurn (sym t.is) (record {
        elements = given-elements stored time nonce t.seen.entry are own.entry in_time in_nonce t.free;
        ordered = given-rise stored time nonce are t.seen.entry own.entry.ordered;
        from = own.below;
        to = All-cons IsEntry (made stored (given stored time nonce t.seen.entry)) t.seen.to
            (made-entry stored time nonce t.seen.entry are own.entry in_time in_nonce t.free) own.to;
      })

-- a step stops at an id that is full
pub step-stops : (stored : List ElementValue) (time nonce : ℕ) (from to : List (List Pair)) (id : List ℕ)
    → step stored time nonce from to ≡ Some (Err id) → (seen : Sought) × (sought stored from to ≡ Some seen)
    × (full_id stored seen.entry ≡ Some id)
step-stops stored time nonce from to id h = go (sought stored from to) refl h
  where
    at : (s : Sought) (o : Option (List ℕ)) → turn_unless o (turn_of stored time nonce s) ≡ Err id → o ≡ Some id
    at s None h = absurd (cc)
    at s (Some other) h = cc

    go : (o : Option Sought) → sought stored from to ≡ o
        → option_map (λ (s : Sought). turn_unless (full_id stored s.entry) (turn_of stored time nonce s)) o
        ≡ Some (Err id)
        → (seen : Sought) × (sought stored from to ≡ Some seen) × (full_id stored seen.entry ≡ Some id)
    go None is h = absurd (cc)
    go (Some s) is h = (s, is, at s (full_id stored s.entry) (same_Some _ _ h))
