-- States between changes, undos and redos: what was stored after each change, and the ways to it.
use Rattle.std.proofs.Common.{◌≡◌, ◌≤◌, ◌<◌, ℕ, zero, suc, ◌+◌, ◌-◌, true, false, List, [], ◌∷◌, length, take, Option, Some, None, Ok, refl, sym, ap, ◌∙◌, subst, arith}
use Rattle.std.proofs.lemmas.Bool.{and_right}
use Rattle.std.proofs.lemmas.Option.{same_Some}
use Rattle.std.proofs.lemmas.List.{take_all}
use Rattle.frac_keys.specs.Rising.{are_rising}
use Rattle.json_text.proofs.CallerLemmas.{Contains-map}
use Rattle.elem.specs.ElementValue.{ElementValue}
use Rattle.elem.specs.Order.{unstamped}
use Rattle.elem.specs.Said.{AreElements}
use Rattle.elem_store.specs.Updates.{element_of, ids_of}
use Rattle.elem_store.proofs.CallerLemmas.{member}
use Rattle.delta.specs.Pairs.{Pair, pair_with, pairs_from}
use Rattle.delta.specs.Parts.{counted}
use Rattle.history.specs.declared.planned.Direction.TheVariants.{Undo, Redo}
use Rattle.undo_model.specs.Carrying.{taken_all}
use Rattle.undo_model.specs.Differing.{same_kind, differ, is_changed, pending}
use Rattle.undo_model.specs.Steps.{step}
use Rattle.undo_model.proofs.CallerLemmas.{differ-same, taken_all-rising}
use Rattle.links.proofs.CallerLemmas.{filter-none_of}
use Rattle.replica.specs.Back.{AgreesWith, IsAs, HasNothingPending, IsCaptured, IsStoredChange, changed, changed_all, AreChanges, Call, IsDone, undone_all, redone_all, AreUndos, AreRedos}
use Rattle.replica.specs.Sound.{IsSoundState}
use Rattle.replica.specs.State.{State, noted, stored_with, undo_on, redo_on, after_turn_of, after_undo, after_redo}
use Rattle.replica.proofs.Agreeing.{agrees-itself, agrees-same, same-bare, looks-same}
use Rattle.replica.proofs.Changing.{pending-meets, none-agrees, leads-stored, new-elements, new-rising, new-alike, new-entry, new-visible, changed-state}
use Rattle.replica.proofs.Ways.{IsWay, way-stepped, way-found}

-- ---- where nothing is pending, a capture leaves the stacks
pending-none : (snapshot stored : List ElementValue) → are_rising (ids_of stored) ≡ true → AgreesWith snapshot stored
    → pending snapshot stored ≡ []
pending-none snapshot stored rise agrees =
    filter-none_of is_changed (pairs_from (element_of snapshot) stored) (λ pair c.
    let of = Contains-map (λ (e : ElementValue). pair_with (element_of snapshot e.id) e) stored pair c in
    let was : ElementValue = counted (element_of snapshot of.0.id) of.0 in
    subst (λ p. is_changed p ≡ false) of.2
    (and_right (same_kind was.kind of.0.kind) (differ was of.0)
    (differ-same was of.0 (same of.0 (member None None stored of.0 rise of.1) (element_of snapshot of.0.id) refl))))
  where
    same : (e : ElementValue) → element_of stored e.id ≡ Some e → (o : Option ElementValue)
        → element_of snapshot e.id ≡ o → unstamped (counted o e) ≡ unstamped e
    same e there None h = ap (λ d. unstamped (record e { deleted = d })) (sym (agrees.others e.id e h there))
    same e there (Some b) h =
        let own = agrees.each e.id b h in sym own.2 ∙ ap unstamped (same_Some own.0 e (sym own.1 ∙ there))

-- where all is captured nothing is pending
pub captured-none : (s : State) → are_rising (ids_of s.stored) ≡ true → IsCaptured s → HasNothingPending s
captured-none s rise still =
    pending-none s.snapshot s.stored rise (agrees-same s.snapshot s.snapshot s.stored (agrees-itself s.snapshot)
    (same-bare s.snapshot s.stored still))

-- ---- what was stored after each change, before and behind one of them
abbrev pub earlier : (ℕ → List ElementValue) → ℕ → List (List ElementValue)
earlier stored_at zero = []
earlier stored_at (suc i) = stored_at i ∷ earlier stored_at i

abbrev pub later : (ℕ → List ElementValue) → ℕ → ℕ → List (List ElementValue)
later stored_at zero i = []
later stored_at (suc k) i = stored_at (suc i) ∷ later stored_at k (suc i)

-- A state stands at the place i of these: undo is a way over all the earlier ones, and redo over the next k ones.
pub record IsAt (stored_at : ℕ → List ElementValue) (i k : ℕ) (s : State) : Type 0 where
  pub elements : AreElements s.stored
  pub rise : are_rising (ids_of s.stored) ≡ true
  pub still : AgreesWith s.snapshot s.stored
  pub agrees : AgreesWith (stored_at i) s.stored
  pub on : IsWay (earlier stored_at i) s.stored s.undo
  pub back : IsWay (later stored_at k i) s.stored s.redo

module _ (stored_at : ℕ → List ElementValue) where
  -- ---- one undo, and one redo
  module _ (i k : ℕ) (s : State) (call : Call) where
    undone-one : IsAt stored_at (suc i) k s → IsDone call (undo_on call.time call.nonce s)
        → IsAt stored_at i (suc k) (after_undo call.time call.nonce s)
    undone-one at done =
        let none = pending-none s.snapshot s.stored at.rise at.still in
        let found : step s.stored call.time call.nonce s.undo s.redo ≡ Some (Ok done.turn) =
        ap (λ e. step s.stored call.time call.nonce (noted e s).undo (noted e s).redo) (sym none) ∙ done.is in
        let own = way-stepped (stored_at i) (stored_at (suc i)) (earlier stored_at i) (later stored_at k (suc i))
        s.stored call.time call.nonce
        at.elements at.rise done.time done.nonce at.agrees s.undo s.redo at.on at.back done.turn found in
        subst (IsAt stored_at i (suc k)) (sym (ap (λ o. after_turn_of Undo o s) done.is)) (record {
          elements = own.elements;
          rise = own.rise;
          still = agrees-itself (taken_all done.turn.given s.stored);
          agrees = own.agrees;
          on = own.on;
          back = own.back;
        })

    redone-one : IsAt stored_at i (suc k) s → IsDone call (redo_on call.time call.nonce s)
        → IsAt stored_at (suc i) k (after_redo call.time call.nonce s)
    redone-one at done =
        let none = pending-none s.snapshot s.stored at.rise at.still in
        let found : step s.stored call.time call.nonce s.redo s.undo ≡ Some (Ok done.turn) =
        ap (λ e. step s.stored call.time call.nonce (noted e s).redo (noted e s).undo) (sym none) ∙ done.is in
        let own = way-stepped (stored_at (suc i)) (stored_at i) (later stored_at k (suc i)) (earlier stored_at i)
        s.stored call.time call.nonce
        at.elements at.rise done.time done.nonce at.agrees s.redo s.undo at.back at.on done.turn found in
        subst (IsAt stored_at (suc i) k) (sym (ap (λ o. after_turn_of Redo o s) done.is)) (record {
          elements = own.elements;
          rise = own.rise;
          still = agrees-itself (taken_all done.turn.given s.stored);
          agrees = own.agrees;
          on = own.back;
          back = own.on;
        })

  -- an entry is found where an earlier or a later place is left
  undo-found : (i k : ℕ) (s : State) (time nonce : ℕ) → IsAt stored_at (suc i) k s → undo_on time nonce s ≡ None → ⊥
  undo-found i k s time nonce at none =
      way-found (stored_at i) (earlier stored_at i) s.stored at.elements s.undo s.redo at.on time nonce
      (ap (λ e. step s.stored time nonce (noted e s).undo (noted e s).redo)
      (sym (pending-none s.snapshot s.stored at.rise at.still)) ∙ none)

  redo-found : (i k : ℕ) (s : State) (time nonce : ℕ) → IsAt stored_at i (suc k) s → redo_on time nonce s ≡ None → ⊥
  redo-found i k s time nonce at none =
      way-found (stored_at (suc i)) (later stored_at k (suc i)) s.stored at.elements s.redo s.undo at.back time nonce
      (ap (λ e. step s.stored time nonce (noted e s).redo (noted e s).undo)
      (sym (pending-none s.snapshot s.stored at.rise at.still)) ∙ none)

  -- ---- successive ones
  undone-more : (undos : List Call) (n i k : ℕ) (s : State) → length undos + i ≡ n → IsAt stored_at n k s
      → AreUndos undos s → IsAt stored_at i (length undos + k) (undone_all undos s)
  undone-more [] n i k s place at done =
      let here : n ≡ i = omega arith in
      let there : k ≡ 0 + k = omega arith in
      subst (λ l. IsAt stored_at i l s) there (subst (λ m. IsAt stored_at m k s) here at)
  undone-more (call ∷ undos) n i k s place at done =
      let here : n ≡ suc (length undos + i) = omega arith in
      let there : length undos + suc k ≡ suc (length undos) + k = omega arith in
      let next = undone-one (length undos + i) k s call (subst (λ m. IsAt stored_at m k s) here at) done.0 in
      subst (λ l. IsAt stored_at i l (undone_all undos (after_undo call.time call.nonce s))) there
      (undone-more undos (length undos + i) i (suc k) (after_undo call.time call.nonce s) refl next done.1)

  redone-more : (redos : List Call) (n i k : ℕ) (s : State) → length redos + k ≡ n → IsAt stored_at i n s
      → AreRedos redos s → IsAt stored_at (length redos + i) k (redone_all redos s)
  redone-more [] n i k s place at done =
      let here : n ≡ k = omega arith in
      let there : i ≡ 0 + i = omega arith in
      subst (λ j. IsAt stored_at j k s) there (subst (λ m. IsAt stored_at i m s) here at)
  redone-more (call ∷ redos) n i k s place at done =
      let here : n ≡ suc (length redos + k) = omega arith in
      let there : length redos + suc i ≡ suc (length redos) + i = omega arith in
      let next = redone-one i (length redos + k) s call (subst (λ m. IsAt stored_at i m s) here at) done.0 in
      subst (λ j. IsAt stored_at j k (redone_all redos (after_redo call.time call.nonce s))) there
      (redone-more redos (length redos + k) (suc i) k (after_redo call.time call.nonce s) refl next done.1)

  -- ---- changes
  -- From all that agrees with what is stored, undo is a way over all that was stored earlier.
  pub record IsReady (i : ℕ) (s : State) : Type 0 where
    pub elements : AreElements s.stored
    pub rise : are_rising (ids_of s.stored) ≡ true
    pub before : AreElements s.snapshot
    pub still : AgreesWith s.snapshot s.stored
    pub on : (now : List ElementValue) → AgreesWith s.stored now → IsWay (earlier stored_at i) now s.undo

  changed-ready : (i : ℕ) (s : State) (given : List ElementValue) → s.stored ≡ stored_at i → IsReady i s
      → IsStoredChange s.stored given → IsReady (suc i) (changed given s)
  changed-ready i s given here ready change =
      let news : List ElementValue = taken_all given s.stored in
      let are = new-elements s given change ready.rise ready.elements ready.before ready.still in
      let rise = new-rising s given change ready.rise ready.elements ready.before ready.still in
      let alike = new-alike s given change ready.rise ready.elements ready.before ready.still in
      subst (IsReady (suc i)) (sym (changed-state s given change ready.rise ready.elements ready.before ready.still))
      (record {
        elements = are;
        rise = rise;
        before = are;
        still = agrees-itself news;
        on = λ now agrees. (
          new-entry s given change ready.rise ready.elements ready.before ready.still,
          new-visible s given change ready.rise ready.elements ready.before ready.still,
          pending-meets s.snapshot news ready.before are rise alike now agrees,
          λ next leads.
              let was : AgreesWith s.stored next = leads-stored s given change ready.rise ready.elements ready.before
              ready.still now next agrees leads in
              (subst (λ old. AgreesWith old next) here was, ready.on next was),
        );
      })

  changed-at : (givens : List (List ElementValue)) (i : ℕ) (s : State)
      → ((k : ℕ) → (changed_all (take k givens) s).stored ≡ stored_at (k + i)) → IsReady i s → AreChanges givens s
      → IsAt stored_at (length givens + i) 0 (changed_all givens s)
  changed-at [] i s places ready changes =
      let here : i ≡ 0 + i = omega arith in
      let was : s.stored ≡ stored_at i = places 0 ∙ ap stored_at (sym here) in
      subst (λ j. IsAt stored_at j 0 s) here (record {
        elements = ready.elements;
        rise = ready.rise;
        still = ready.still;
        agrees = subst (λ old. AgreesWith old s.stored) was (agrees-itself s.stored);
        on = ready.on s.stored (agrees-itself s.stored);
        back = tt;
      })
  changed-at (given ∷ givens) i s places ready changes =
      let here : i ≡ 0 + i = omega arith in
      let was : s.stored ≡ stored_at i = places 0 ∙ ap stored_at (sym here) in
      let there : length givens + suc i ≡ suc (length givens) + i = omega arith in
      let next : (k : ℕ) → (changed_all (take k givens) (changed given s)).stored ≡ stored_at (k + suc i) =
      λ k. places (suc k) ∙ ap stored_at (let e : suc k + i ≡ k + suc i = omega arith in e) in
      subst (λ j. IsAt stored_at j 0 (changed_all givens (changed given s))) there
      (changed-at givens (suc i) (changed given s) next (changed-ready i s given was ready changes.0) changes.1)

-- ---- from a sound state on which nothing is pending
pub noted-stored : (entry : List Pair) (s : State) → (noted entry s).stored ≡ s.stored
noted-stored [] s = refl
noted-stored (pair ∷ entry) s = refl

rising-all : (givens : List (List ElementValue)) (s : State) → are_rising (ids_of s.stored) ≡ true
    → are_rising (ids_of (changed_all givens s).stored) ≡ true
rising-all [] s rise = rise
rising-all (given ∷ givens) s rise =
    let t : State = stored_with given s in
    rising-all givens (changed given s)
    (ap (λ (es : List ElementValue). are_rising (ids_of es)) (noted-stored (pending t.snapshot t.stored) t)
    ∙ taken_all-rising s.stored given rise)

module _ (s : State) (givens : List (List ElementValue)) (sound : IsSoundState s) (none : HasNothingPending s)
    (changes : AreChanges givens s) where
  -- what was stored after so many of the changes
  abbrev stored_after : ℕ → List ElementValue
  stored_after i = (changed_all (take i givens) s).stored

  at-end : IsAt stored_after (length givens + 0) 0 (changed_all givens s)
  at-end =
      changed-at stored_after givens 0 s (λ k. ap stored_after (let e : k ≡ k + 0 = omega arith in e)) (record {
        elements = sound.stored_elements;
        rise = sound.stored_rise;
        before = sound.snapshot_elements;
        still = none-agrees s.snapshot s.stored sound.snapshot_elements sound.stored_elements sound.stored_rise
            sound.alike none;
        on = λ now agrees. tt;
      }) changes

  is-as : (i k : ℕ) (now : State) → IsAt stored_after i k now → IsAs (changed_all (take i givens) s) now
  is-as i k now at = record {
    agrees = at.agrees;
    looks = looks-same (stored_after i) now.stored (rising-all (take i givens) s sound.stored_rise) at.rise at.agrees;
  }

  module _ (undos : List Call) (few : length undos ≤ length givens) (done : AreUndos undos (changed_all givens s)) where
    undone-at : IsAt stored_after (length givens - length undos) (length undos + 0)
        (undone_all undos (changed_all givens s))
    undone-at =
        let place : length undos + (length givens - length undos) ≡ length givens + 0 = omega arith in
        undone-more stored_after undos (length givens + 0) (length givens - length undos) 0 (changed_all givens s) place
        at-end done

    pub undone-is : IsAs (changed_all (take (length givens - length undos) givens) s)
        (undone_all undos (changed_all givens s))
    undone-is =
        is-as (length givens - length undos) (length undos + 0) (undone_all undos (changed_all givens s)) undone-at

    pub undone-all : length undos ≡ length givens → IsAs s (undone_all undos (changed_all givens s))
    undone-all same =
        let none : length givens - length undos ≡ 0 = omega arith in
        subst (λ i. IsAs (changed_all (take i givens) s) (undone_all undos (changed_all givens s))) none undone-is

    pub undo-is_found : length undos < length givens → (time nonce : ℕ)
        → undo_on time nonce (undone_all undos (changed_all givens s)) ≡ None → ⊥
    undo-is_found less time nonce =
        let place : length givens - length undos ≡ suc (length givens - length undos - 1) = omega arith in
        undo-found stored_after (length givens - length undos - 1) (length undos + 0)
        (undone_all undos (changed_all givens s)) time nonce
        (subst (λ i. IsAt stored_after i (length undos + 0) (undone_all undos (changed_all givens s))) place undone-at)

    module _ (redos : List Call) (fewer : length redos ≤ length undos)
        (repeated : AreRedos redos (undone_all undos (changed_all givens s))) where
      redone-at : IsAt stored_after (length redos + (length givens - length undos)) (length undos - length redos)
          (redone_all redos (undone_all undos (changed_all givens s)))
      redone-at =
          let place : length redos + (length undos - length redos) ≡ length undos + 0 = omega arith in
          redone-more stored_after redos (length undos + 0) (length givens - length undos) (length undos - length redos)
          (undone_all undos (changed_all givens s)) place undone-at repeated

      pub redone-is : IsAs (changed_all (take (length redos + (length givens - length undos)) givens) s)
          (redone_all redos (undone_all undos (changed_all givens s)))
      redone-is =
          is-as (length redos + (length givens - length undos)) (length undos - length redos)
          (redone_all redos (undone_all undos (changed_all givens s))) redone-at

      pub redo-is_found : length redos < length undos → (time nonce : ℕ)
          → redo_on time nonce (redone_all redos (undone_all undos (changed_all givens s))) ≡ None → ⊥
      redo-is_found less time nonce =
          let place : length undos - length redos ≡ suc (length undos - length redos - 1) = omega arith in
          redo-found stored_after (length redos + (length givens - length undos)) (length undos - length redos - 1)
          (redone_all redos (undone_all undos (changed_all givens s))) time nonce
          (subst (λ k. IsAt stored_after (length redos + (length givens - length undos)) k
          (redone_all redos (undone_all undos (changed_all givens s)))) place redone-at)

      pub redone-all : length redos ≡ length undos
          → IsAs (changed_all givens s) (redone_all redos (undone_all undos (changed_all givens s)))
      redone-all same =
          let whole : length givens ≤ length redos + (length givens - length undos) = omega arith in
          subst (λ gs. IsAs (changed_all gs s) (redone_all redos (undone_all undos (changed_all givens s))))
          (take_all (length redos + (length givens - length undos)) givens whole) redone-is
