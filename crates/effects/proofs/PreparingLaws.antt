-- What was looked up serves the command's effect.
use Rattle.std.proofs.Common.{◌≡◌, ℕ, Bool, true, false, cond, not, ◌||◌, List, [], ◌∷◌, ◌++◌, Option, Some, None, is_some, Result, Ok, Err, Contains, IfOk, find, bytes_eq, if◌then◌else◌, nat_cmp, inl, inr, refl, sym, ap, ◌∙◌, subst}
use Rattle.std.specs.BTreeMap.{BTreeMap, get}
use Rattle.std.specs.BTreeSet.{BTreeSet, contains, Updates}
use Rattle.std.specs.Cmp.Lexicographic.{slice_cmp, nat_list_eq_equiv, texts_ties}
use Rattle.std.specs.Option.{option_map, option_map_or, unwrap_or}
use Rattle.std.proofs.lemmas.Bool.{cases_Bool, cond-false, cond-true, not-false}
use Rattle.std.proofs.lemmas.List.Folds.{list_any-append}
use Rattle.elem.specs.ElementValue.{ElementValue}
use Rattle.elem_store.specs.Updates.{element_of, is_among}
use Rattle.elem_store.proofs.CallerLemmas.{is_some-find, list_any-false}
use Rattle.view.specs.Shown.{is_live}
use Rattle.index_repair.specs.Keyed.{index_of}
use Rattle.effects.specs.inner.Concerning.{DeletesLive}
use Rattle.effects.specs.Copying.{settled_for}
use Rattle.effects.specs.Deleting.{deleted_from}
use Rattle.effects.specs.Lookups.{IsLookup}
use Rattle.effects.specs.Placing.{with_view_key}
use Rattle.effects.specs.Effects.{effect}
use Rattle.effects.specs.inner.Prepared.{elements_among, made_by, HasKeys, HasIds, settled_in, IsSoundEffect, Prepares}
use Rattle.effects.specs.Refusals.{first_missing, is_live_id}
use Rattle.board_commands.specs.declared.command.Command.{Command}
use Rattle.effects.specs.declared.effect.Effect.{Effect}
use Rattle.effects.specs.declared.lookup.Lookup.{Lookup}
use Rattle.effects.specs.declared.refusal.Refusal.TheVariants.{NoElement}
use Rattle.effects.proofs.ChosenLaws.{filtered-of}
use Rattle.effects.proofs.CreatedLaws.{unmapped}
use Rattle.effects.proofs.FindingLaws.{seen-keyed}
use Rattle.effects.proofs.NamedLaws.{among-Contains}

pub HasIds-more : (old new : BTreeSet (List ℕ)) (ids : List (List ℕ)) (id copy : List ℕ) → HasIds old ids → copy ≡ id
    → Updates (slice_cmp nat_cmp) old new copy true → HasIds new (ids ++ id ∷ [])
HasIds-more old new ids id copy has is updates other =
    let same = bytes_eq other id in
    updates.0 other
    ∙ ap (λ b. cond b true (contains (slice_cmp nat_cmp) old other)) (sym (texts_ties copy other)
    ∙ nat_list_eq_equiv.symm copy other ∙ ap (bytes_eq other) is)
    ∙ ap (cond same true) (has other)
    ∙ joined same (is_among ids other)
    ∙ sym (list_any-append (bytes_eq other) ids (id ∷ []))
  where
    joined : (same among : Bool) → cond same true among ≡ (among || (same || false))
    joined true true = refl
    joined true false = refl
    joined false true = refl
    joined false false = refl

or-default : {X Y : Type 0} (f : X → Y) (o : Option X) (d : Y) → unwrap_or (option_map f o) d ≡ option_map_or f o d
or-default f None d = refl
or-default f (Some x) d = refl

with_view_key-at : (keys : BTreeMap (List ℕ) (Option (List ℕ))) (shown : List ElementValue) (e : ElementValue)
    → get (slice_cmp nat_cmp) keys e.id ≡ option_map index_of (element_of shown e.id)
    → settled_in keys e ≡ with_view_key shown e
with_view_key-at keys shown e has =
    ap (λ index. record e { index = index }) (ap (λ o. unwrap_or o e.index) has
    ∙ or-default index_of (element_of shown e.id) e.index)

-- ---- where keys are settled
module _ (lookup : Lookup) (is : IsLookup lookup) (keys : BTreeMap (List ℕ) (Option (List ℕ))) where
  -- the keys of what may be rekeyed settle each live element
  pub settled-view : HasKeys keys (elements_among lookup.rekeyed.now lookup.shown.now) → (e : ElementValue)
      → Contains lookup.store.now.elements e → is_live e ≡ true → settled_in keys e ≡ with_view_key lookup.shown.now e
  settled-view has e c live =
      let found = filtered-of (contains (slice_cmp nat_cmp) lookup.rekeyed.now) lookup.shown.now e.id in
      elim (cases_Bool (contains (slice_cmp nat_cmp) lookup.rekeyed.now e.id)) [
        | inl among ↦ with_view_key-at keys lookup.shown.now e (has e.id
            ∙ ap (option_map index_of) (found
            ∙ cond-true (contains (slice_cmp nat_cmp) lookup.rekeyed.now e.id) (element_of lookup.shown.now e.id) None
            among))
        | inr other ↦
            ap (λ (o : Option (Option (List ℕ))). record e { index = unwrap_or o e.index }) (has e.id
            ∙ ap (option_map index_of) (found
            ∙ cond-false (contains (slice_cmp nat_cmp) lookup.rekeyed.now e.id) (element_of lookup.shown.now e.id)
            None other))
            ∙ sym (ap (λ (index : Option (List ℕ)). record e { index = index })
            (sym (or-default index_of (element_of lookup.shown.now e.id) e.index)
            ∙ ap (λ (o : Option (Option (List ℕ))). unwrap_or o e.index) (seen-keyed lookup is e c live other)))
      ]

  -- and none are needed where nothing is copied
  pub settled-for : (originals : List ElementValue)
      → HasKeys keys (settled_for originals (elements_among lookup.rekeyed.now lookup.shown.now))
      → (e : ElementValue) → Contains lookup.store.now.elements e → is_live e ≡ true
      → settled_in keys e ≡ with_view_key (settled_for originals lookup.shown.now) e
  settled-for [] has e c live = with_view_key-at keys [] e (has e.id)
  settled-for (o ∷ originals) has e c live = settled-view has e c live

pub deleted-among : (set : BTreeSet (List ℕ)) (ids : List (List ℕ)) (e : ElementValue) → HasIds set ids
    → deleted_from (contains (slice_cmp nat_cmp) set) e ≡ deleted_from (is_among ids) e
deleted-among set ids e has = ap (λ is_gone. deleted_from is_gone e) (λ i id. has id i)

pub changed-among : (set : BTreeSet (List ℕ)) (ids : List (List ℕ)) (e new : ElementValue) → HasIds set ids
    → (if contains (slice_cmp nat_cmp) set e.id then new else e) ≡ (if is_among ids e.id then new else e)
changed-among set ids e new has = ap (λ b. if b then new else e) (has e.id)

-- none of the ids that become deleted is missing
pub deleted-live : (set : BTreeSet (List ℕ)) (ids : List (List ℕ)) (stored : List ElementValue) → HasIds set ids
    → first_missing stored ids ≡ None → (id : List ℕ) → contains (slice_cmp nat_cmp) set id ≡ true
    → is_live_id stored id ≡ true
deleted-live set ids stored has none id among =
    let missing' = (λ (id : List ℕ). not (is_live_id stored id)) in
    not-false (is_live_id stored id)
    (list_any-false missing' ids id (sym (is_some-find missing' ids)
    ∙ ap is_some (unmapped NoElement (find missing' ids) none)) (among-Contains ids id (sym (has id) ∙ among)))

-- ---- the command that was given is the one that was prepared for
module _ {E : Type 0} (r : Result Effect E) (stored view : List ElementValue) (command given : Command) (is : given
    ≡ command) where
  pub as-given : IfOk r (Prepares stored view command) → IfOk r (Prepares stored view given)
  as-given h = subst (λ c. IfOk r (Prepares stored view c)) (sym is) h

  pub for-stored : IfOk r (λ made. (view : List ElementValue) → Prepares stored view command made)
      → IfOk r (Prepares stored view given)
  for-stored h = as-given (at r h)
    where
      at : (r : Result Effect E) → IfOk r (λ made. (view : List ElementValue) → Prepares stored view command made)
          → IfOk r (Prepares stored view command)
      at (Ok made) h = h view
      at (Err e) h = tt

  pub for-all : IfOk r (λ made. (stored view : List ElementValue) → Prepares stored view command made)
      → IfOk r (Prepares stored view given)
  for-all h = as-given (at r h)
    where
      at : (r : Result Effect E) → IfOk r (λ made. (stored view : List ElementValue)
          → Prepares stored view command made) → IfOk r (Prepares stored view command)
      at (Ok made) h = h stored view
      at (Err e) h = tt

  pub from-parts : IfOk r (λ made. (e : ElementValue) → Contains stored e → is_live e ≡ true
      → made_by made e ≡ effect stored view command e) → IfOk r IsSoundEffect → IfOk r (λ made. DeletesLive made stored)
      → IfOk r (Prepares stored view given)
  from-parts exact sound live = as-given (at r exact sound live)
    where
      at : (r : Result Effect E) → IfOk r (λ made. (e : ElementValue) → Contains stored e → is_live e ≡ true
          → made_by made e ≡ effect stored view command e) → IfOk r IsSoundEffect
          → IfOk r (λ made. DeletesLive made stored) → IfOk r (Prepares stored view command)
      at (Ok made) exact sound live = record { exact = exact; sound = sound; live = live }
      at (Err e) exact sound live = tt
