-- An entry of parts and the pairs that it stands for: both are seen, are full and give the same elements.
use Rattle.std.proofs.Common.{◌≡◌, ◌⊎◌, ◌↔◌, ℕ, Bool, true, false, not, ◌||◌, eqb, List, [], ◌∷◌, map, find, Option, Some, None, Contains, refl, sym, ap, ◌∙◌, subst, inl, inr, arith}
use Rattle.std.specs.List.{list_any}
use Rattle.std.specs.Option.{option_map, option_map_or}
use Rattle.std.proofs.lemmas.Bool.{both_ways, false≢true, false_from_ne_true, and_parts, and_from, cond-true, cond-false, or_left, or_right, eqb-true, eq-eqb, not_from_false}
use Rattle.std.proofs.lemmas.List.Elements.{All-contains}
use Rattle.std.proofs.lemmas.List.Folds.{Any-from_list_any}
use Rattle.std.proofs.lemmas.Option.{same_Some}
use Rattle.frac_keys.specs.Keys.{bytes_less}
use Rattle.frac_keys.specs.Rising.{are_rising}
use Rattle.elem.specs.ElementValue.{ElementValue}
use Rattle.elem.specs.Facts.{IsElement, greatest_whole}
use Rattle.elem.specs.Order.{unstamped, has_id}
use Rattle.elem.specs.Said.{HasValidTexts, AreElements}
use Rattle.elem.specs.Stamp.{stamped}
use Rattle.elem_store.specs.Updates.{element_of}
use Rattle.elem_store.proofs.CallerLemmas.{Contains-head, Contains-cons, Contains-cases, find-Some, find-None}
use Rattle.delta.specs.Delta.{Delta}
use Rattle.delta.specs.Pairs.{Pair, exchanged}
use Rattle.delta.specs.Parts.{inverses}
use Rattle.delta.proofs.CallerLemmas.{entry-exchanged, same_members, later_greater}
use Rattle.undo_model.specs.Differing.{differ}
use Rattle.undo_model.specs.Steps.{Reverted, is_visible, is_full, is_seen, reverted, given, full_id}
use Rattle.undo_model.specs.Undoing.{undone}
use Rattle.undo_model.proofs.CallerLemmas as turns
use Rattle.frac_keys.proofs.CallerLemmas.{rise_between-lower}
use Rattle.history.specs.Pairs.{IsEntryOf}
use Rattle.history.specs.Steps.{Reverts, Differ, IsNow, IsSeen, AreGiven, IsFullId, IsLeastFull}
use Rattle.history.proofs.Reverting.{undone-reverts, reverts-once, differ-from, differ-to}

-- ---- lists
list_any-Contains : {X : Type 0} (p : X → Bool) (xs : List X) (x : X) → Contains xs x → p x ≡ true
    → list_any p xs ≡ true
list_any-Contains p [] x c h = absurd (omega (arith, c.1))
list_any-Contains p (y ∷ ys) x c h = elim (Contains-cases y ys x c) [
  | inl same ↦ or_left (p y) (list_any p ys) (ap p same ∙ h)
  | inr later ↦ or_right (p y) (list_any p ys) (list_any-Contains p ys x later h)
]

-- the first that passes a test is the one of the least id that does
find-least : {X : Type 0} (id_of : X → List ℕ) (p : X → Bool) (xs : List X) (x : X) → are_rising (map id_of xs) ≡ true
    → Contains xs x → p x ≡ true → ((y : X) → Contains xs y → p y ≡ true → bytes_less (id_of y) (id_of x) ≡ false)
    → find p xs ≡ Some x
find-least id_of p [] x rising c h least = absurd (omega (arith, c.1))
find-least id_of p (y ∷ ys) x rising c h least = elim (Contains-cases y ys x c) [
  | inl same ↦ cond-true (p y) (Some y) (find p ys) (ap p same ∙ h) ∙ ap Some same
  | inr later ↦
      let not : p y ≡ false = false_from_ne_true (p y)
      (λ t. both_ways (bytes_less (id_of y) (id_of x)) (least y (Contains-head y ys) t)
      (later_greater id_of [] y ys x rising later)) in
      cond-false (p y) (Some y) (find p ys) not
      ∙ find-least id_of p ys x (rise_between-lower None (id_of y) (map id_of ys) refl rising) later h
      (λ z d t. least z (Contains-cons y ys z d) t)
]

-- ---- one of two is live
live-one : (a b : Bool) → (not a || not b) ≡ true → (a ≡ false) ⊎ (b ≡ false)
live-one false b h = inl refl
live-one true false h = inr refl
live-one true true h = absurd (false≢true h)

one-live : (a b : Bool) → (a ≡ false) ⊎ (b ≡ false) → (not a || not b) ≡ true
one-live a b h = elim h [
  | inl live ↦ or_left (not a) (not b) (not_from_false a live)
  | inr live ↦ or_right (not a) (not b) (not_from_false b live)
]

-- ---- entries
-- one is empty where its pairs are
pub same-empty : (parts : List Delta) (pairs : List Pair) → IsEntryOf parts pairs → (parts ≡ []) ↔ (pairs ≡ [])
same-empty [] [] is = (λ e. refl, λ e. refl)
same-empty [] (pair ∷ pairs) is =
    let changed = (is.entry.each pair (Contains-head pair pairs)).1 in
    absurd (elim (is.stands.each_pair pair (Contains-head pair pairs)) [
      | inl same ↦ changed.differ (same changed.kind)
      | inr of ↦ omega (arith, of.1.1)
    ])
same-empty (part ∷ parts) [] is = absurd (omega (arith, (is.stands.each_part part (Contains-head part parts)).1.1))
same-empty (part ∷ parts) (pair ∷ pairs) is = (λ e. absurd (cc), λ e. absurd (cc))

-- the inverse of one stands for the pairs with before and after exchanged
pub exchanged-entry : (parts : List Delta) (pairs : List Pair) → IsEntryOf parts pairs
    → IsEntryOf (inverses parts) (map exchanged pairs)
exchanged-entry parts pairs is =
    record { stands = entry-exchanged parts pairs is.stands; entry = turns.exchanged-entry pairs is.entry }

-- what a test of a pair says of the stored element
tested : (p : Reverted → Bool) (pair : Pair) (o : Option ElementValue)
    → option_map_or p (option_map (λ (now : ElementValue). record { now = now; undone = undone pair now }) o) false
    ≡ true
    → (now : ElementValue) × (o ≡ Some now) × (p (record { now = now; undone = undone pair now }) ≡ true)
tested p pair None h = absurd (false≢true h)
tested p pair (Some now) h = (now, refl, h)

module _ (store : List ElementValue) (are : AreElements store) where
  stored-is : (id : List ℕ) (now : ElementValue) → element_of store id ≡ Some now → IsElement now × HasValidTexts now
  stored-is id now stored =
      All-contains (λ e. IsElement e × HasValidTexts e) store now are (find-Some (has_id id) store now stored).0

  -- whether a pair passes a test with the stored element
  abbrev passes : (Reverted → Bool) → Pair → Bool
  passes p pair = option_map_or p (reverted store pair) false

  passes-at : (p : Reverted → Bool) (pair : Pair) (now : ElementValue) → element_of store pair.after.id ≡ Some now
      → p (record { now = now; undone = undone pair now }) ≡ true → passes p pair ≡ true
  passes-at p pair now found h =
      ap (λ o. option_map_or p (option_map (λ (now : ElementValue). record { now = now; undone = undone pair now }) o)
      false) found ∙ h

  module _ (parts : List Delta) (pairs : List Pair) (is : IsEntryOf parts pairs) where
    -- the pair of a part, and what undoing it makes of the stored element
    record IsPairAt (part : Delta) (now r : ElementValue) (pair : Pair) : Type 0 where
      among : Contains pairs pair
      id : part.id ≡ pair.after.id
      found : element_of store pair.after.id ≡ Some now
      once : r ≡ undone pair now
      differ : Differ now r → differ now (undone pair now) ≡ true

    from-part : (part : Delta) (now r : ElementValue) → IsNow parts store part now → Reverts part now r → (pair : Pair)
        × IsPairAt part now r pair
    from-part part now r at reverts =
        let of = is.stands.each_part part at.among in
        let own = is.entry.each of.0 of.1 in
        let whole = stored-is part.id now at.stored in
        let once = reverts-once part of.0 now of.2 own.0 whole r reverts in (
          of.0,
          record {
            among = of.1;
            id = of.2.stands.id;
            found = ap (element_of store) (sym of.2.stands.id) ∙ at.stored;
            once = once;
            differ = λ d. differ-from part of.0 now of.2 own.0 whole (subst (Differ now) once d);
          },
        )

    -- the part of a pair, and what its inverse makes of the stored element
    record IsPartAt (pair : Pair) (now : ElementValue) (part : Delta) : Type 0 where
      at : IsNow parts store part now
      id : part.id ≡ pair.after.id
      reverts : Reverts part now (undone pair now)
      once : (r : ElementValue) → Reverts part now r → r ≡ undone pair now
      differ : differ now (undone pair now) ≡ true → Differ now (undone pair now)

    from-pair : (pair : Pair) (now : ElementValue) → Contains pairs pair → element_of store pair.after.id ≡ Some now
        → (part : Delta) × IsPartAt pair now part
    from-pair pair now c found =
        let own = is.entry.each pair c in
        let whole = stored-is pair.after.id now found in
        elim (is.stands.each_pair pair c) [
          | inl same ↦ absurd (own.1.differ (same own.1.kind))
          | inr of ↦ (
            of.0,
            record {
              at = record { among = of.1; stored = ap (element_of store) of.2.stands.id ∙ found };
              id = of.2.stands.id;
              reverts = undone-reverts of.0 pair now of.2 own.0 whole;
              once = reverts-once of.0 pair now of.2 own.0 whole;
              differ = differ-to of.0 pair now of.2 own.0 whole;
            },
          )
        ]

    -- ---- what is seen
    seen-true : is_seen store pairs ≡ true → IsSeen store parts
    seen-true h =
        let some = Any-from_list_any (passes is_visible) pairs h in
        let at = tested is_visible some.1 (element_of store some.1.after.id) some.4 in
        let now = at.0 in
        let r = undone some.1 now in
        let of = from-pair some.1 now (some.0, some.2, some.3) at.1 in
        let seen = and_parts (differ now r) (not now.deleted || not r.deleted) at.2 in
        (of.0, now, of.1.at, (r, of.1.reverts, of.1.differ seen.0, live-one now.deleted r.deleted seen.1))

    pub is-seen : IsSeen store parts → is_seen store pairs ≡ true
    is-seen seen =
        let now = seen.1 in
        let of = from-part seen.0 now seen.3.0 seen.2 seen.3.1 in
        let r = undone of.0 now in
        let live = subst (λ (u : ElementValue). (now.deleted ≡ false) ⊎ (u.deleted ≡ false)) of.1.once seen.3.3 in
        list_any-Contains (passes is_visible) pairs of.0 of.1.among
        (passes-at is_visible of.0 now of.1.found (and_from (differ now r) (not now.deleted || not r.deleted)
        (of.1.differ seen.3.2) (one-live now.deleted r.deleted live)))

    pub not-seen : ¬ (IsSeen store parts) → is_seen store pairs ≡ false
    not-seen unseen = false_from_ne_true (is_seen store pairs) (λ t. unseen (seen-true t))

    -- ---- what is full
    full-true : (pair : Pair) → Contains pairs pair → passes is_full pair ≡ true → IsFullId parts store pair.after.id
    full-true pair c h =
        let at = tested is_full pair (element_of store pair.after.id) h in
        let now = at.0 in
        let of = from-pair pair now c at.1 in
        let full = and_parts (differ now (undone pair now)) (eqb now.version greatest_whole) at.2 in (
          of.0,
          now,
          of.1.at,
          (
            undone pair now,
            of.1.reverts,
            of.1.differ full.0,
            eqb-true now.version greatest_whole full.1,
          ),
          of.1.id,
        )

    pub none-full : ((id : List ℕ) → ¬ (IsFullId parts store id)) → full_id store pairs ≡ None
    none-full none =
        ap (option_map (λ (pair : Pair). pair.after.id))
        (find-None (passes is_full) pairs (λ pair c. false_from_ne_true (passes is_full pair)
        (λ t. none pair.after.id (full-true pair c t))))

    pub least-full : (id : List ℕ) → IsLeastFull parts store id → full_id store pairs ≡ Some id
    least-full id least =
        let full = least.full in
        let now = full.1 in
        let of = from-part full.0 now full.3.0 full.2 full.3.1 in
        let own : of.0.after.id ≡ id = sym of.1.id ∙ full.4 in
        let h = passes-at is_full of.0 now of.1.found
        (and_from (differ now (undone of.0 now)) (eqb now.version greatest_whole) (of.1.differ full.3.2)
        (eq-eqb now.version greatest_whole full.3.3)) in
        ap (option_map (λ (pair : Pair). pair.after.id))
        (find-least (λ (pair : Pair). pair.after.id) (passes is_full) pairs of.0 is.entry.ordered of.1.among h
        (λ pair c t. subst (λ k. bytes_less pair.after.id k ≡ false) (sym own)
        (least.least pair.after.id (full-true pair c t))))
        ∙ ap Some own

    -- ---- what is given
    module _ (time nonce : ℕ) (es : List ElementValue) (gives : AreGiven parts store time nonce es) where
      given-in : (e : ElementValue) → Contains (given store time nonce pairs) e → Contains es e
      given-in e c =
          let own = turns.given-each store time nonce pairs e c in
          let of = from-pair own.pair own.now own.among own.found in
          let all = gives.all of.0 of.1.at.among in
          let one : all.now ≡ own.now = same_Some all.now own.now (sym all.at.stored ∙ of.1.at.stored) in
          let same : all.reverted ≡ undone own.pair own.now =
          of.1.once all.reverted (subst (λ now. Reverts of.0 now all.reverted) one all.reverts) in
          elim all.comes [
            | inl still ↦ absurd (of.1.differ own.differs (sym (ap unstamped one) ∙ still ∙ ap unstamped same))
            | inr among ↦ subst (Contains es) (ap (stamped time nonce) same ∙ sym own.is) among
          ]

      in-given : (e : ElementValue) → Contains es e → Contains (given store time nonce pairs) e
      in-given e c =
          let own = gives.each e c in
          let of = from-part own.part own.now own.reverted own.at own.reverts in
          turns.given-all store time nonce pairs e (record {
            pair = of.0;
            now = own.now;
            among = of.1.among;
            found = of.1.found;
            differs = of.1.differ own.differs;
            is = own.is ∙ ap (stamped time nonce) of.1.once;
          })

      -- the elements of a step are those that undoing the pairs gives
      pub given-same : given store time nonce pairs ≡ es
      given-same =
          same_members (λ (e : ElementValue). e.id) (given store time nonce pairs) es
          (turns.given-rise store time nonce are pairs is.entry.ordered) gives.ordered given-in in-given
