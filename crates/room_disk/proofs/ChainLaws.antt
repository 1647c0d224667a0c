-- Over a chain of runs nothing is lost that was kept in any of them.
use Rattle.std.proofs.Common.{◌≡◌, ℕ, zero, suc, ◌≤◌, true, false, List, [], ◌∷◌, ◌++◌, length, take, flat_map, Option, Some, None, Ok, Err, Result, All, Contains, ◌⊎◌, inl, inr, refl, sym, ap, subst, ◌∙◌, append_assoc, arith}
use Rattle.std.proofs.lemmas.Bool.{cases_Bool}
use Rattle.std.proofs.lemmas.List.Elements.{All-append, All-contains, All-head, All-nil, All-tail, All-take, Contains-append_cases, Contains-append_left, Contains-append_right}
use Rattle.frac_keys.specs.Between.{key_between}
use Rattle.frac_keys.specs.Rising.{are_rising}
use Rattle.elem.specs.ElementValue.{ElementValue}
use Rattle.elem.specs.Facts.{IsElement}
use Rattle.elem.specs.Order.{beats, has_id}
use Rattle.elem.specs.Said.{AreElements, HasValidTexts}
use Rattle.elem.specs.Texts.{element_text}
use Rattle.elem.proofs.CallerLemmas.{beats-neither}
use Rattle.elem_read.specs.Reading.{IsWholeElement}
use Rattle.elem_store.specs.Updates.{AreStored, ids_of, stored_of}
use Rattle.elem_store.proofs.CallerLemmas.{AreStored-itself, Contains-cases, Contains-cons, Contains-head, IsBestOf-stored, elements-stored, find-Some, of_itself, same_id, stored-None}
use Rattle.scene_file.proofs.CallerLemmas.{stored-whole}
use Rattle.room_disk.specs.Chains.{AreChained, IsFoundOf, IsKeptIn, IsResumedFrom, Run, kept_in, told_in}
use Rattle.room_disk.specs.Keeping.{messages_heard, messages_of, messages_told, told_last}
use Rattle.room_disk.specs.Recovering.{Recovered}
use Rattle.room_disk.specs.Resuming.{filled_above, greatest_key, last_behind, resumed, with_key_above}
use Rattle.room_disk.specs.declared.fault.KeepFault.{KeepFault}
use Rattle.room_disk.proofs.KeyBeats.{key-beats}
use Rattle.room_disk.proofs.KeptStops.{AreWholeMessages, told_first}
use Rattle.room_disk.proofs.ResumeLaws.{filled-ids, resumed-whole, same-id}

-- what is cited of laws below
abbrev pub AreTransitive : Type 0
AreTransitive = (a b c : ElementValue) → beats a b ≡ true → beats b c ≡ true → beats a c ≡ true

abbrev pub AreToldByTexts : Type 0
AreToldByTexts = (a b : ElementValue) → IsElement a → HasValidTexts a → IsElement b → HasValidTexts b
    → element_text a ≡ element_text b → a ≡ b

abbrev pub WholeAreElements : Type 0
WholeAreElements = (elements : List ElementValue) → All IsWholeElement elements → AreElements elements

-- ---- one that stands in for another
in_place : AreTransitive → (a b c : ElementValue) → (b ≡ a) ⊎ (beats b a ≡ true) → (c ≡ b) ⊎ (beats c b ≡ true)
    → (c ≡ a) ⊎ (beats c a ≡ true)
in_place law a b c (inl same) (inl is) = inl (is ∙ same)
in_place law a b c (inl same) (inr more) = inr (subst (λ x. beats c x ≡ true) same more)
in_place law a b c (inr more) (inl is) = inr (subst (λ x. beats x a ≡ true) (sym is) more)
in_place law a b c (inr more) (inr most) = inr (law c b a most more)

kept_then : AreTransitive → (e : ElementValue) (middle last : List ElementValue) → IsKeptIn middle e
    → ((f : ElementValue) → Contains middle f → IsKeptIn last f) → IsKeptIn last e
kept_then law e middle last (f, among, named, place) more =
    let next = more f among in
    (next.0, next.1, next.2 ∙ named, in_place law e f next.0 place next.3)

kept_itself : (elements : List ElementValue) (e : ElementValue) → Contains elements e → IsKeptIn elements e
kept_itself elements e among = (e, among, refl, inl refl)

-- ---- a store of updates
neither : AreToldByTexts → (f e : ElementValue) → IsElement f × HasValidTexts f → IsElement e × HasValidTexts e
    → beats e f ≡ false → (f ≡ e) ⊎ (beats f e ≡ true)
neither law f e is other unbeaten = elim (cases_Bool (beats f e)) [
  | inl more ↦ inr more
  | inr less ↦ inl (law f e is.0 is.1 other.0 other.1 (beats-neither f e less unbeaten).2)
]

by_best : AreToldByTexts → (updates elements : List ElementValue) (e : ElementValue) → AreElements updates
    → AreStored updates elements → Contains updates e
    → (o : Option ElementValue) → stored_of updates e.id ≡ o → IsKeptIn elements e
by_best law updates elements e are stored among None is = absurd (stored-None updates e.id e is among (of_itself e))
by_best law updates elements e are stored among (Some f) is =
    let best = IsBestOf-stored updates e.id f is in
    let found = find-Some (has_id e.id) elements f (stored.each e.id ∙ is) in
    let all = elements-stored updates elements are stored in (
      f,
      found.0,
      sym (same_id e.id f best.named),
      neither law f e (All-contains (λ x. IsElement x × HasValidTexts x) elements f all found.0)
          (All-contains (λ x. IsElement x × HasValidTexts x) updates e are among) (best.unbeaten e among (of_itself e)),
    )

stored_keeps : AreToldByTexts → (updates elements : List ElementValue) (e : ElementValue) → AreElements updates
    → AreStored updates elements → Contains updates e → IsKeptIn elements e
stored_keeps law updates elements e are stored among =
    by_best law updates elements e are stored among (stored_of updates e.id) refl

-- ---- one run
taken_told : (told others : List (List ElementValue)) (count : ℕ) (e : ElementValue) → length told ≤ count
    → Contains (flat_map (λ (elements : List ElementValue). elements) told) e
    → Contains (flat_map (λ (elements : List ElementValue). elements) (take count (told ++ others))) e
taken_told [] others count e few (k, l, is) = absurd (omega (arith, l))
taken_told (m ∷ told) others zero e few among = absurd (omega (arith, few))
taken_told (m ∷ told) others (suc count) e few among =
    elim (Contains-append_cases m (flat_map (λ (elements : List ElementValue). elements) told) e among) [
      | inl here ↦ Contains-append_left m (flat_map (λ (elements : List ElementValue). elements)
          (take count (told ++ others))) e here
      | inr there ↦ Contains-append_right m
          (flat_map (λ (elements : List ElementValue). elements) (take count (told ++ others))) e
          (taken_told told others count e (omega (arith, few)) there)
    ]

flat_whole : (messages : List (List ElementValue)) → AreWholeMessages messages
    → All IsWholeElement (flat_map (λ (elements : List ElementValue). elements) messages)
flat_whole [] whole = All-nil IsWholeElement
flat_whole (m ∷ messages) whole =
    All-append IsWholeElement m (flat_map (λ (elements : List ElementValue). elements) messages)
    (All-head (All IsWholeElement) m messages whole)
    (flat_whole messages (All-tail (All IsWholeElement) m messages whole))

record IsSound (elements : List ElementValue) : Type 0 where
  whole : All IsWholeElement elements
  ordered : are_rising (ids_of elements) ≡ true

abbrev elements_in : Result Recovered KeepFault → List ElementValue
elements_in (Ok found) = found.elements
elements_in (Err fault) = []

module _ (law : AreToldByTexts) (elements : WholeAreElements) (run : Run) (found : Recovered) (is : IsFoundOf run found)
    (sound : IsSound run.stored) where
  updates : List ElementValue
  updates = run.stored ++ flat_map (λ (es : List ElementValue). es) (take is.count (messages_heard run.account))

  updates_whole : All IsWholeElement updates
  unfolding updates
  updates_whole =
      All-append IsWholeElement run.stored
      (flat_map (λ (es : List ElementValue). es) (take is.count (messages_heard run.account))) sound.whole
      (flat_whole (take is.count (messages_heard run.account))
      (All-take (All IsWholeElement) is.count (messages_heard run.account) is.whole))

  updates_stored : AreStored updates found.elements
  unfolding updates
  updates_stored =
      subst (λ (all : List ElementValue). AreStored (run.stored
      ++ flat_map (λ (es : List ElementValue). es) (take is.count (messages_heard run.account))) all)
      (sym (ap elements_in is.first.is)) (is.first.taken run.stored (AreStored-itself run.stored sound.ordered))

  found_sound : IsSound found.elements
  found_sound = record {
    whole = stored-whole updates found.elements updates_whole updates_stored;
    ordered =
        updates_stored.ordered;
  }

  stored_kept : (e : ElementValue) → Contains run.stored e → IsKeptIn found.elements e
  unfolding updates
  stored_kept e among = stored_keeps law updates found.elements e (elements updates updates_whole) updates_stored
      (Contains-append_left run.stored (flat_map (λ (es : List ElementValue). es)
      (take is.count (messages_heard run.account))) e among)

  told_kept : (e : ElementValue) → Contains (told_in run) e → IsKeptIn found.elements e
  unfolding updates
  told_kept e among =
      let last = told_first run.account.last.tries run.account.last.messages in
      let parts : messages_heard run.account ≡ messages_told run.account ++ last.0 = heard_parts run last.0 last.1 in
      stored_keeps law updates found.elements e (elements updates updates_whole) updates_stored
      (Contains-append_right run.stored (flat_map (λ (es : List ElementValue). es)
      (take is.count (messages_heard run.account))) e
      (subst (λ (ms : List (List ElementValue)). Contains (flat_map (λ (es : List ElementValue). es) (take is.count ms))
      e) (sym parts)
      (taken_told (messages_told run.account) last.0 is.count e is.all among)))
    where
      heard_parts : (run : Run) (others : List (List ElementValue))
          → run.account.last.messages ≡ told_last run.account.last.tries run.account.last.messages ++ others
          → messages_heard run.account ≡ messages_told run.account ++ others
      heard_parts run others are = ap (λ ms. messages_of run.account.rounds ++ ms) are
          ∙ sym (append_assoc (messages_of run.account.rounds)
          (told_last run.account.last.tries run.account.last.messages) others)

-- ---- a restart
one_filled : (index last : Option (List ℕ)) (e : ElementValue) → e.index ≡ index → (with_key_above index last e ≡ e)
    ⊎ (beats (with_key_above index last e) e ≡ true)
one_filled (Some key) last e is = inl refl
one_filled None last e is = inr (key-beats e (key_between last None) is)

filled_keeps : (last : Option (List ℕ)) (elements : List ElementValue) (e : ElementValue) → Contains elements e
    → IsKeptIn (filled_above last elements) e
filled_keeps last [] e (k, l, is) = absurd (omega (arith, l))
filled_keeps last (f ∷ elements) e among = elim (Contains-cases f elements e among) [
  | inl same ↦ subst (IsKeptIn (filled_above last (f ∷ elements))) same (
    with_key_above f.index last f,
    Contains-head (with_key_above f.index last f) (filled_above (last_behind f.index last) elements),
    same-id f.index last f,
    one_filled f.index last f refl,
  )
  | inr there ↦
      let others = filled_keeps (last_behind f.index last) elements e there in (
        others.0,
        Contains-cons (with_key_above f.index last f) (filled_above (last_behind f.index last) elements)
            others.0 others.1,
        others.2,
        others.3,
      )
]

resumed_sound : (elements : List ElementValue) → IsSound elements → IsSound (resumed elements)
resumed_sound elements sound = record {
  whole = resumed-whole elements sound.whole;
  ordered = ap are_rising (filled-ids (greatest_key None elements) elements) ∙ sound.ordered;
}

-- ---- a chain
module _ (beaten : AreTransitive) (law : AreToldByTexts) (elements : WholeAreElements) where
  after_run : (first found : Recovered) (run : Run) → IsSound first.elements → IsResumedFrom first run
      → IsFoundOf run found → IsSound run.stored
  after_run first found run sound from is = subst IsSound (sym from.stored) (resumed_sound first.elements sound)

  first_kept : (first found : Recovered) (run : Run) → IsSound first.elements → IsResumedFrom first run
      → IsFoundOf run found → (e : ElementValue) → Contains first.elements e → IsKeptIn found.elements e
  first_kept first found run sound from is e among =
      kept_then beaten e run.stored found.elements
      (subst (λ (stored : List ElementValue). IsKeptIn stored e) (sym from.stored)
      (filled_keeps (greatest_key None first.elements) first.elements e among))
      (stored_kept law elements run found is (after_run first found run sound from is))

  chain : (first last : Recovered) (runs : List Run) → IsSound first.elements → AreChained first runs last
      → (e : ElementValue) → Contains (kept_in first runs) e → IsKeptIn last.elements e
  chain first last [] sound are e among = elim (Contains-append_cases first.elements [] e among) [
    | inl here ↦ subst (λ (found : Recovered). IsKeptIn found.elements e) (sym are) (kept_itself first.elements e here)
    | inr there ↦ absurd (omega (arith, there.1))
  ]
  chain first last (run ∷ runs) sound are e among =
      let found = are.1.0 in
      let opened = after_run first found run sound are.0 are.1.1 in
      let later = chain found last runs (found_sound law elements run found are.1.1 opened) are.1.2 in
      let from_found : (f : ElementValue) → Contains found.elements f → IsKeptIn last.elements f =
      λ f here. later f (Contains-append_left found.elements (flat_map told_in runs) f here) in
      elim (Contains-append_cases first.elements (told_in run ++ flat_map told_in runs) e among) [
        | inl here ↦ kept_then beaten e found.elements last.elements
            (first_kept first found run sound are.0 are.1.1 e here) from_found
        | inr there ↦ elim (Contains-append_cases (told_in run) (flat_map told_in runs) e there) [
          | inl told ↦ kept_then beaten e found.elements last.elements
              (told_kept law elements run found are.1.1 opened e told) from_found
          | inr more ↦ later e (Contains-append_right found.elements (flat_map told_in runs) e more)
        ]
      ]

  pub chain-keeps : (first last : Recovered) (runs : List Run) (e : ElementValue) → All IsWholeElement first.elements
      → are_rising (ids_of first.elements) ≡ true → AreChained first runs last
      → Contains (kept_in first runs) e → IsKeptIn last.elements e
  chain-keeps first last runs e whole ordered are among =
      chain first last runs (record { whole = whole; ordered = ordered }) are e among
