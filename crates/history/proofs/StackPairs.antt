-- Stacks of parts and those of pairs that they stand for: a step of the one is a step of the other.
use Rattle.std.proofs.Common.{◌≡◌, ℕ, ◌+◌, ◌<◌, ◌≤◌, ◌&&◌, ◌||◌, true, List, [], ◌∷◌, ◌++◌, map, reverse, append_assoc, Some, None, Ok, Err, IsSome, Contains, refl, sym, ap, ◌∙◌, subst, arith}
use Rattle.std.specs.Prelude.{◌==◌, nat_lt}
use Rattle.std.specs.Option.{option_map}
use Rattle.std.proofs.lemmas.Bool.{cond-true, cond-false, lt-ltb, or_left}
use Rattle.std.proofs.lemmas.List.{reverse-append}
use Rattle.elem.specs.ElementValue.{ElementValue}
use Rattle.elem.specs.Facts.{greatest_whole}
use Rattle.elem.specs.Order.{text_less}
use Rattle.elem.specs.Said.{AreElements}
use Rattle.elem_store.specs.Updates.{element_of, is_taken, is_newer}
use Rattle.elem_store.proofs.CallerLemmas.{Contains-head, Contains-cons}
use Rattle.delta.specs.Delta.{Delta}
use Rattle.delta.specs.Pairs.{Pair, EntryStandsFor, exchanged}
use Rattle.delta.specs.Parts.{inverses}
use Rattle.undo_model.proofs.CallerLemmas.{given-elements, made-entry}
use Rattle.undo_model.specs.Steps.{Sought, Turn, sought, is_seen, given, full_id, made, turn_of, turn_unless, step}
use Rattle.history.specs.Pairs.{IsEntryOf, AreEntriesOf, StackStandsFor, with_pairs, pairs_left}
use Rattle.history.specs.Stacks.{AreUnseen, IsTopmostSeen, HasStepped, StopsAt, with_entry, redo_left}
use Rattle.history.specs.Steps.{IsSeen, IsStep}
use Rattle.history.proofs.EntryPairs.{same-empty, exchanged-entry, is-seen, not-seen, none-full, least-full, given-same}
use Rattle.history.proofs.PlanLaws.{reverse-cons}
use Rattle.history.proofs.StepLaws.{reverse-Contains, came-id}

-- ---- noting
-- an entry on top
reverse-push : (stack : List (List Delta)) (parts : List Delta) → reverse (stack ++ parts ∷ []) ≡ parts ∷ reverse stack
reverse-push stack parts = reverse-append stack (parts ∷ [])

pub noted-stands : (parts : List Delta) (pairs : List Pair) (stack : List (List Delta)) (olds : List (List Pair))
    → IsEntryOf parts pairs → StackStandsFor stack olds
    → StackStandsFor (with_entry parts stack) (with_pairs pairs olds)
noted-stands [] [] stack olds is h = h
noted-stands [] (pair ∷ pairs) stack olds is h = absurd (let e = (same-empty [] (pair ∷ pairs) is).0 refl in cc)
noted-stands (part ∷ parts) [] stack olds is h = absurd (let e = (same-empty (part ∷ parts) [] is).1 refl in cc)
noted-stands (part ∷ parts) (pair ∷ pairs) stack olds is h =
    subst (λ entries. AreEntriesOf entries ((pair ∷ pairs) ∷ olds)) (sym (reverse-push stack (part ∷ parts))) (is, h)

pub left-stands : (parts : List Delta) (pairs : List Pair) (stack : List (List Delta)) (olds : List (List Pair))
    → IsEntryOf parts pairs → StackStandsFor stack olds → StackStandsFor (redo_left parts stack) (pairs_left pairs olds)
left-stands [] [] stack olds is h = h
left-stands [] (pair ∷ pairs) stack olds is h = absurd (let e = (same-empty [] (pair ∷ pairs) is).0 refl in cc)
left-stands (part ∷ parts) [] stack olds is h = absurd (let e = (same-empty (part ∷ parts) [] is).1 refl in cc)
left-stands (part ∷ parts) (pair ∷ pairs) stack olds is h = tt

-- ---- entries that are passed over
-- a stack, its topmost entry first, once these went to it one after another, inverted
moved : List (List Delta) → List (List Delta) → List (List Delta)
moved [] to = to
moved (parts ∷ more) to = moved more (inverses parts ∷ to)

grown-turned : (passed to : List (List Delta)) (top : List Delta) → reverse (to ++ (map inverses passed ++ top ∷ []))
    ≡ top ∷ moved passed (reverse to)
unfolding moved
grown-turned [] to top = reverse-push to top
grown-turned (parts ∷ passed) to top =
    ap reverse (sym (append_assoc to (inverses parts ∷ []) (map inverses passed ++ top ∷ [])))
    ∙ grown-turned passed (to ++ inverses parts ∷ []) top
    ∙ ap (λ entries. top ∷ moved passed entries) (reverse-push to (inverses parts))

-- the topmost entry that is seen in a stack that is turned round
split-turned : (below above : List (List Delta)) (parts : List Delta) → reverse (below ++ parts ∷ above) ≡ reverse above
    ++ parts ∷ reverse below
split-turned below above parts =
    reverse-append below (parts ∷ above) ∙ ap (λ entries. entries ++ reverse below) (reverse-cons parts above)
    ∙ append_assoc (reverse above) (parts ∷ []) (reverse below)

module _ (store : List ElementValue) (are : AreElements store) where
  -- what is sought of a stack of pairs stands for what a stack of parts has
  pub record IsFound (parts : List Delta) (left grown : List (List Delta)) (s : Sought) : Type 0 where
    pub entry : IsEntryOf parts s.entry
    pub below : AreEntriesOf left s.below
    pub to : AreEntriesOf grown s.to

  sought-seen : (above : List (List Delta)) (parts : List Delta) (below to : List (List Delta))
      (olds others : List (List Pair)) → AreEntriesOf (above ++ parts ∷ below) olds → AreEntriesOf to others
      → AreUnseen store above → IsSeen store parts → (s : Sought) × (sought store olds others ≡ Some s)
      × IsFound parts below (moved above to) s
  unfolding moved
  sought-seen [] parts below to [] others h k unseen seen = absurd h
  sought-seen [] parts below to (entry ∷ olds) others h k unseen seen = (
    record { entry = entry; below = olds; to = others },
    cond-true (is_seen store entry) (Some (record { entry = entry; below = olds; to = others }))
        (sought store olds (map exchanged entry ∷ others)) (is-seen store are parts entry h.0 seen),
    record { entry = h.0; below = h.1; to = k },
  )
  sought-seen (first ∷ above) parts below to [] others h k unseen seen = absurd h
  sought-seen (first ∷ above) parts below to (entry ∷ olds) others h k unseen seen =
      let later = sought-seen above parts below (inverses first ∷ to) olds (map exchanged entry ∷ others) h.1
      (exchanged-entry first entry h.0, k) (λ p c. unseen p (Contains-cons first above p c)) seen in
      let not = not-seen store are first entry h.0 (unseen first (Contains-head first above)) in (
        later.0,
        cond-false (is_seen store entry) (Some (record { entry = entry; below = olds; to = others }))
            (sought store olds (map exchanged entry ∷ others)) not ∙ later.1,
        later.2,
      )

  sought-none : (stack : List (List Delta)) (olds others : List (List Pair)) → AreEntriesOf stack olds
      → AreUnseen store stack → sought store olds others ≡ None
  sought-none [] [] others h unseen = refl
  sought-none [] (entry ∷ olds) others h unseen = absurd h
  sought-none (first ∷ stack) [] others h unseen = absurd h
  sought-none (first ∷ stack) (entry ∷ olds) others h unseen =
      cond-false (is_seen store entry) (Some (record { entry = entry; below = olds; to = others }))
      (sought store olds (map exchanged entry ∷ others))
      (not-seen store are first entry h.0 (unseen first (Contains-head first stack)))
      ∙ sought-none stack olds (map exchanged entry ∷ others) h.1 (λ p c. unseen p (Contains-cons first stack p c))

  turned-unseen : (stack : List (List Delta)) → AreUnseen store stack → AreUnseen store (reverse stack)
  turned-unseen stack unseen parts c = unseen parts (reverse-Contains stack parts c)

  sought-topmost : (from below : List (List Delta)) (parts : List Delta) (above to : List (List Delta))
      (olds others : List (List Pair)) → StackStandsFor from olds → StackStandsFor to others
      → IsTopmostSeen store from below parts above → (s : Sought) × (sought store olds others ≡ Some s)
      × IsFound parts (reverse below) (moved (reverse above) (reverse to)) s
  sought-topmost from below parts above to olds others h k top =
      sought-seen (reverse above) parts (reverse below) (reverse to) olds others
      (subst (λ entries. AreEntriesOf entries olds) (ap reverse top.split ∙ split-turned below above parts) h)
      k (turned-unseen above top.unseen) top.seen

  module _ (time nonce : ℕ) where
    -- nothing is seen
    pub step-nothing : (from : List (List Delta)) (olds others : List (List Pair)) → StackStandsFor from olds
        → AreUnseen store from → step store time nonce olds others ≡ None
    step-nothing from olds others h unseen =
        ap (option_map (λ s. turn_unless (full_id store s.entry) (turn_of store time nonce s)))
        (sought-none (reverse from) olds others h (turned-unseen from unseen))

    -- an element can't change
    pub step-full : (from to : List (List Delta)) (olds others : List (List Pair)) (id : List ℕ)
        → StackStandsFor from olds → StackStandsFor to others → StopsAt store from id
        → step store time nonce olds others ≡ Some (Err id)
    step-full from to olds others id h k stops =
        let r = sought-topmost from stops.below stops.parts stops.above to olds others h k stops.topmost in
        ap (option_map (λ s. turn_unless (full_id store s.entry) (turn_of store time nonce s))) r.1
        ∙ ap (λ o. Some (turn_unless o (turn_of store time nonce r.0)))
        (least-full store are stops.parts r.0.entry r.2.entry id stops.full)

    -- ---- what is given
    module _ (early : time ≤ greatest_whole) (small : nonce ≤ greatest_whole) (parts : List Delta) (pairs : List Pair)
        (is : IsEntryOf parts pairs) (es : List ElementValue) (top : List Delta)
        (step : IsStep parts store time nonce es top) where
      abbrev same : given store time nonce pairs ≡ es
      same = given-same store are parts pairs is time nonce es step.gives

      abbrev free : full_id store pairs ≡ None
      free = none-full store are parts pairs is step.none_full

      pub elements-given : AreElements es
      elements-given = subst AreElements same (given-elements store time nonce pairs are is.entry early small free)

      -- the entry that takes the step back is that of its changes
      pub made-entry-of : IsEntryOf top (made store (given store time nonce pairs))
      made-entry-of = record {
        stands = subst (λ es. EntryStandsFor top (made store es)) (sym same) step.undoes;
        entry = made-entry store time nonce pairs are is.entry early small free;
      }

    -- a step
    module _ (early : time ≤ greatest_whole) (small : nonce ≤ greatest_whole) (es : List ElementValue)
        (from to below grown : List (List Delta)) (olds : List (List Pair)) (h : StackStandsFor from olds)
        (stepped : HasStepped store time nonce es from to below grown) where
      pub step-done : (others : List (List Pair)) → StackStandsFor to others → (turn : Turn)
          × (step store time nonce olds others ≡ Some (Ok turn)) × (turn.given ≡ es) × StackStandsFor below turn.from
          × StackStandsFor grown turn.to
      step-done others k =
          let r = sought-topmost from below stepped.parts stepped.above to olds others h k stepped.topmost in
          let s = r.0 in
          let same : given store time nonce s.entry ≡ es =
          given-same store are stepped.parts s.entry r.2.entry time nonce es stepped.step.gives in
          let top = made-entry-of early small stepped.parts s.entry r.2.entry es stepped.made stepped.step in (
            turn_of store time nonce s,
            ap (option_map (λ s. turn_unless (full_id store s.entry) (turn_of store time nonce s))) r.1
                ∙ ap (λ o. Some (turn_unless o (turn_of store time nonce s)))
                (none-full store are stepped.parts s.entry r.2.entry stepped.step.none_full),
            same,
            r.2.below,
            subst (λ entries. AreEntriesOf entries (made store (given store time nonce s.entry) ∷ s.to))
                (sym (ap reverse stepped.pushed ∙ grown-turned (reverse stepped.above) to stepped.made))
                (top, r.2.to),
          )

      pub step-elements : AreElements es
      step-elements =
          let r = sought-topmost from below stepped.parts stepped.above [] olds [] h tt stepped.topmost in
          elements-given early small stepped.parts r.0.entry r.2.entry es stepped.made stepped.step

-- the id of what a step gives is stored, and it becomes stored
pub step-taken : (store es : List ElementValue) (time nonce : ℕ) (from to below grown : List (List Delta))
    → HasStepped store time nonce es from to below grown → (e : ElementValue) → Contains es e
    → IsSome (element_of store e.id) × (is_taken store e ≡ true)
step-taken store es time nonce from to below grown stepped e c =
    let own = stepped.step.gives.each e c in
    let now = own.now in
    let stored : element_of store e.id ≡ Some now =
    ap (element_of store) (sym (came-id store time nonce own.part now own.reverted e own.at.stored own.reverts.kept
    own.is)) ∙ own.at.stored in
    let version : e.version ≡ now.version + 1 =
    ap (λ (d : ElementValue). d.version) own.is ∙ ap (λ n. n + 1) own.reverts.kept.version in
    let newer : now.version < e.version = omega (arith, version) in (
      subst IsSome (sym stored) refl,
      ap (is_newer e) stored
          ∙ or_left (nat_lt now.version e.version) (e.version == now.version
          && (nat_lt e.nonce now.nonce || (e.nonce == now.nonce && text_less e now)))
          (lt-ltb now.version e.version newer),
    )
