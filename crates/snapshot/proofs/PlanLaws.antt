-- What is planned: entries of the elements that differ alone, and carrying over a growing store.
use Rattle.std.proofs.Common.{◌≡◌, ℕ, ◌+◌, ◌<◌, Bool, true, false, cond, ◌⊎◌, List, [], ◌∷◌, ◌++◌, length, get_or, take, drop, slice_get, take-append-drop, Option, Some, None, IsSome, All, Contains, refl, sym, ap, ap₂, ◌∙◌, subst, inl, inr}
use Rattle.std.specs.Option.{option_or, option_map}
use Rattle.std.proofs.lemmas.Bool.{cond-true}
use Rattle.std.proofs.lemmas.List.{take_more}
use Rattle.std.proofs.lemmas.Option.{slice_get_within, get_or_from_slice_get}
use Rattle.frac_keys.specs.Rising.{are_rising}
use Rattle.json_text.proofs.CallerLemmas.{Contains-map, Contains-to_map}
use Rattle.elem.specs.ElementValue.{ElementValue}
use Rattle.elem.specs.Order.{unstamped, has_id}
use Rattle.elem_store.specs.Updates.{element_of, ids_of, is_newer, is_taken, takings, Taking}
use Rattle.elem_store.proofs.CallerLemmas.{find-Some, member, AreStored-itself, AreStored-push, takings-stored}
use Rattle.delta.specs.Delta.{Delta}
use Rattle.delta.specs.Pairs.{Pair, pair_with, IsUnchanged, EntryStandsFor, IsSamePair, HasSamePairs}
use Rattle.delta.specs.Parts.{counted}
use Rattle.delta.proofs.CallerLemmas.{entry-unstamped, none-earlier, rising-front}
use Rattle.undo_model.specs.Carrying.{with_put, with_all_put, taken, taken_all, followed, carried_over, carried_all}
use Rattle.undo_model.specs.Differing.{same_kind}
use Rattle.undo_model.specs.Undoing.{undone}
use Rattle.undo_model.proofs.CallerLemmas.{taken-has, put-rising}
use Rattle.snapshot.specs.inner.Carried.{carried_to, with_made}
use Rattle.snapshot.specs.Pending.{pairs_since}
use Rattle.snapshot.proofs.PutLaws.{put-below, put-there, all-rise, all-each, all-append, all-below, all-cover, taken_all-put}

-- ---- an entry of some elements stands for those over the others too
module _ (captured step : List ElementValue) (rise : are_rising (ids_of step) ≡ true)
    (captured_rise : are_rising (ids_of captured) ≡ true) where
  abbrev pair_of : ElementValue → Pair
  pair_of e = pair_with (element_of captured e.id) e

  -- the pair of one that is put
  there : HasSamePairs (pairs_since captured step) (pairs_since captured (with_all_put step captured))
  there p c =
      let of = Contains-map pair_of step p c in
      let e = of.0 in
      let own : element_of (with_all_put step captured) e.id ≡ Some e = all-each step captured e.id rise
      ∙ ap (λ o. option_or o (element_of captured e.id)) (member None None step e rise of.1) in
      inr (
        p,
        subst (Contains (pairs_since captured (with_all_put step captured))) of.2
            (Contains-to_map pair_of (with_all_put step captured) e
            (find-Some (has_id e.id) (with_all_put step captured) e own).0),
        record { before = refl; after = refl },
      )

  -- one that isn't put is as it was
  own-pair : (e : ElementValue) (o p : Option ElementValue) → element_of step e.id ≡ o → element_of captured e.id ≡ p
      → Some e ≡ option_or o p
      → IsUnchanged (pair_of e) ⊎ ((other : Pair) × Contains (pairs_since captured step) other
      × IsSamePair (pair_of e) other)
  own-pair e (Some x) p a b own =
      inr (
        pair_of e,
        Contains-to_map pair_of step e (find-Some (has_id e.id) step e (a ∙ sym own)).0,
        record { before = refl; after = refl },
      )
  own-pair e None p a b own = inl (λ kind. ap (λ o. unstamped (counted o e)) (b ∙ sym own))

  back : HasSamePairs (pairs_since captured (with_all_put step captured)) (pairs_since captured step)
  back p c =
      let of = Contains-map pair_of (with_all_put step captured) p c in
      let e = of.0 in
      let own : Some e ≡ option_or (element_of step e.id) (element_of captured e.id) =
      sym (member None None (with_all_put step captured) e (all-rise step captured captured_rise) of.1)
      ∙ all-each step captured e.id rise in
      subst (λ q. IsUnchanged q ⊎ ((other : Pair) × Contains (pairs_since captured step) other × IsSamePair q other))
      of.2
      (own-pair e (element_of step e.id) (element_of captured e.id) refl refl own)

  pub stands-over : (parts : List Delta) → EntryStandsFor parts (pairs_since captured step)
      → EntryStandsFor parts (pairs_since captured (with_all_put step captured))
  stands-over parts stands = entry-unstamped parts (pairs_since captured step)
      (pairs_since captured (with_all_put step captured)) stands there back

-- ---- copies of what differs
-- one more stored element is put, or is there already
module _ (captured store : List ElementValue) (captured_rise : are_rising (ids_of captured) ≡ true)
    (store_rise : are_rising (ids_of store) ≡ true) (i : ℕ) (e : ElementValue) (at : slice_get store i ≡ Some e) where
  here : get_or store i e ≡ e
  here = get_or_from_slice_get store i e e at

  within : i < length store
  within = slice_get_within store i e at

  first_rise : are_rising (ids_of (take i store)) ≡ true
  first_rise = rising-front (λ (x : ElementValue). x.id) (take i store) (drop i store)
      (ap (λ es. are_rising (ids_of es)) (take-append-drop i store) ∙ store_rise)

  next : with_all_put (take (i + 1) store) captured ≡ with_put e (with_all_put (take i store) captured)
  next =
      ap (λ es. with_all_put es captured) (take_more store i e within ∙ ap (λ x. take i store ++ x ∷ []) here)
      ∙ all-append (take i store) (e ∷ []) captured

  there-already : Some e ≡ element_of captured e.id → element_of (with_all_put (take i store) captured) e.id ≡ Some e
  there-already own =
      all-each (take i store) captured e.id first_rise
      ∙ ap (λ o. option_or o (element_of captured e.id)) (none-earlier (λ (x : ElementValue). x.id) store i e store_rise
      within (sym here))
      ∙ sym own

  pub differ-more : (copies new : List ElementValue) (o : Option ElementValue) → are_rising (ids_of copies) ≡ true
      → with_all_put copies captured ≡ with_all_put (take i store) captured → o ≡ element_of captured e.id
      → (new ≡ with_put e copies) ⊎ ((new ≡ copies) × (o ≡ Some e))
      → (with_all_put new captured ≡ with_all_put (take (i + 1) store) captured) × (are_rising (ids_of new) ≡ true)
  differ-more copies new o rise over own (inl put) = (
    ap (λ es. with_all_put es captured) put ∙ put-below e copies captured rise captured_rise ∙ ap (with_put e) over
        ∙ sym next,
    ap (λ es. are_rising (ids_of es)) put ∙ put-rising e copies rise,
  )
  differ-more copies new o rise over own (inr same) = (
    ap (λ es. with_all_put es captured) same.0 ∙ over
        ∙ sym (next ∙ put-there e (with_all_put (take i store) captured)
        (all-rise (take i store) captured captured_rise) (there-already (sym same.1 ∙ own))),
    ap (λ es. are_rising (ids_of es)) same.0 ∙ rise,
  )

-- what is put over the copies is what will be stored
pub plan-step : (captured stored changed copies step : List ElementValue) → are_rising (ids_of captured) ≡ true
    → are_rising (ids_of stored) ≡ true → are_rising (ids_of changed) ≡ true → are_rising (ids_of copies) ≡ true
    → ((id : List ℕ) → IsSome (element_of captured id) → IsSome (element_of stored id))
    → All (λ e. is_taken stored e ≡ true) changed
    → with_all_put copies captured ≡ with_all_put stored captured → step ≡ with_all_put changed copies
    → with_all_put step captured ≡ taken_all changed stored
plan-step captured stored changed copies step captured_rise stored_rise rise copies_rise known taken over is =
    ap (λ es. with_all_put es captured) is ∙ all-below changed copies captured copies_rise captured_rise
    ∙ ap (with_all_put changed) (over ∙ all-cover stored captured stored_rise captured_rise known)
    ∙ sym (taken_all-put changed stored rise taken)

-- ---- carrying
-- what a carried change puts
pub carried_over-to : (old : Option ElementValue) (new : ElementValue) (snapshot : List ElementValue)
    → carried_over old new snapshot ≡ with_made (carried_to (element_of snapshot new.id) old new) snapshot
carried_over-to None new snapshot = refl
carried_over-to (Some old) new snapshot = to (same_kind old.kind new.kind) (element_of snapshot new.id)
  where
    to : (b : Bool) (captured : Option ElementValue)
        → cond b (followed captured old new snapshot) (with_put new snapshot)
        ≡ with_made (cond b (option_map (undone (record { before = new; after = old })) captured) (Some new)) snapshot
    to true None = refl
    to true (Some captured) = refl
    to false captured = refl

pub made-rises : (made : Option ElementValue) (xs : List ElementValue) → are_rising (ids_of xs) ≡ true
    → are_rising (ids_of (with_made made xs)) ≡ true
made-rises None xs h = h
made-rises (Some e) xs h = put-rising e xs h

made-below : (made : Option ElementValue) (ys zs : List ElementValue) → are_rising (ids_of ys) ≡ true
    → are_rising (ids_of zs) ≡ true → with_all_put (with_made made ys) zs ≡ with_made made (with_all_put ys zs)
made-below None ys zs h k = refl
made-below (Some e) ys zs h k = put-below e ys zs h k

-- what a taken update makes is put into the step
pub carried-step : (captured step stored : List ElementValue) (e : ElementValue) (made : Option ElementValue)
    (steps : List ElementValue) → are_rising (ids_of captured) ≡ true → are_rising (ids_of step) ≡ true
    → is_taken stored e ≡ true
    → steps ≡ with_made made step → made ≡ carried_to (element_of (with_all_put step captured) e.id)
    (element_of stored e.id) e
    → with_all_put steps captured ≡ cond (is_taken stored e)
    (carried_over (element_of stored e.id) e (with_all_put step captured)) (with_all_put step captured)
carried-step captured step stored e made steps captured_rise rise is put to =
    ap (λ es. with_all_put es captured) put ∙ made-below made step captured rise captured_rise
    ∙ ap (λ m. with_made m (with_all_put step captured)) to
    ∙ sym (carried_over-to (element_of stored e.id) e (with_all_put step captured))
    ∙ sym (cond-true (is_taken stored e) (carried_over (element_of stored e.id) e (with_all_put step captured))
    (with_all_put step captured) is)

-- which of further updates become stored over rising ids
pub takings-more : (stored : List ElementValue) (e : ElementValue) (more : List ElementValue)
    → are_rising (ids_of stored) ≡ true
    → takings stored (e ∷ more) ≡ cond (is_taken stored e) (record { before = element_of stored e.id; taken = e }
    ∷ takings (with_put e stored) more) (takings stored more)
takings-more stored e more h =
    ap₂ (λ (o : Option ElementValue) (rest : List Taking). cond (is_newer e o) (record { before = o; taken = e } ∷ rest)
    rest) (sym ((AreStored-itself stored h).each e.id))
    (sym (takings-stored (stored ++ e ∷ []) (taken e stored) more
    (AreStored-push stored stored (taken e stored) e (AreStored-itself stored h) (taken-has stored e h))))
    ∙ own (is_taken stored e)
  where
    own : (b : Bool) → cond b (record { before = element_of stored e.id; taken = e }
        ∷ takings (cond b (with_put e stored) stored) more) (takings (cond b (with_put e stored) stored) more)
        ≡ cond b (record { before = element_of stored e.id; taken = e } ∷ takings (with_put e stored) more)
        (takings stored more)
    own true = refl
    own false = refl

-- one more of the list is carried, where it becomes stored over the newer ones
pub carry-more : (stored captured newer step news steps : List ElementValue) (e : ElementValue)
    (more : List ElementValue) → are_rising (ids_of stored) ≡ true → are_rising (ids_of newer) ≡ true
    → news ≡ cond (is_taken (with_all_put newer stored) e) (with_put e newer) newer
    → with_all_put steps captured ≡ cond (is_taken (with_all_put newer stored) e)
    (carried_over (element_of (with_all_put newer stored) e.id) e (with_all_put step captured))
    (with_all_put step captured)
    → (carried_all (takings (with_all_put news stored) more) (with_all_put steps captured)
    ≡ carried_all (takings (with_all_put newer stored) (e ∷ more)) (with_all_put step captured))
    × (are_rising (ids_of news) ≡ true)
carry-more stored captured newer step news steps e more stored_rise newer_rise new stepped =
    let now = with_all_put newer stored in
    let taking : Taking = record { before = element_of now e.id; taken = e } in (
      ap₂ (λ (es fs : List ElementValue). carried_all (takings (with_all_put es stored) more) fs) new stepped
          ∙ own (is_taken now e)
          ∙ ap (λ ts. carried_all ts (with_all_put step captured))
          (sym (takings-more now e more (all-rise newer stored stored_rise))),
      ap (λ es. are_rising (ids_of es)) new
          ∙ (elim (is_taken now e) as (λ b. are_rising (ids_of (cond b (with_put e newer) newer)) ≡ true)
          [ true ↦ put-rising e newer newer_rise | false ↦ newer_rise ]),
    )
  where
    own : (b : Bool) → carried_all (takings (with_all_put (cond b (with_put e newer) newer) stored) more)
        (cond b (carried_over (element_of (with_all_put newer stored) e.id) e (with_all_put step captured))
        (with_all_put step captured))
        ≡ carried_all (cond b (record { before = element_of (with_all_put newer stored) e.id; taken = e }
        ∷ takings (with_put e (with_all_put newer stored)) more) (takings (with_all_put newer stored) more))
        (with_all_put step captured)
    own true =
        ap (λ es. carried_all (takings es more) (carried_over (element_of (with_all_put newer stored) e.id) e
        (with_all_put step captured))) (put-below e newer stored newer_rise stored_rise)
    own false = refl
