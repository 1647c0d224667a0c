-- Undoing leaves what others changed.
use Rattle.std.proofs.Common.{◌≡◌, ◌≢◌, ◌⊎◌, ℕ, Bool, true, false, not, ◌&&◌, ◌||◌, List, ◌++◌, filter, Option, Some, None, bytes_eq, inl, inr, refl, sym, ap, ap₂, ◌∙◌, subst}
use Rattle.std.proofs.lemmas.Bool.{cases_Bool, cond-true, cond-false, both_ways}
use Rattle.std.proofs.lemmas.List.Folds.{list_any-append}
use Rattle.std.proofs.lemmas.Map.Views.{any-filter_same}
use Rattle.json_text.specs.FirstOccurrences.{first_occurrences}
use Rattle.json_text.proofs.CallerLemmas.{bytes_eq-true, bytes_eq-same}
use Rattle.elem.specs.ElementValue.{ElementValue}
use Rattle.elem.specs.Facts.{IsElement}
use Rattle.elem.specs.Listings.{same_listing_entry-exact, same_listing_entry-same, same_listing_entry}
use Rattle.elem.specs.Said.{HasValidTexts}
use Rattle.delta.specs.Headers.{scalar_of}
use Rattle.delta.specs.Joined.{are_same, is_in, stays, is_gained, joined}
use Rattle.delta.specs.Pairs.{Pair}
use Rattle.delta.specs.Parts.{scalars_same}
use Rattle.delta.specs.Undone.{undone_scalar, undone_list, Undoes}
use Rattle.delta.proofs.CallerLemmas.{are_same-exact, are_same-same, is_in-first}
use Rattle.undo_model.specs.Differing.{same_kind}
use Rattle.undo_model.specs.Entries.{IsOfElements}
use Rattle.undo_model.specs.Leaving.{ChangesByItems, Leaves}
use Rattle.undo_model.specs.Undoing.{undone}
use Rattle.undo_model.proofs.DifferingLaws.{same_kind-same, same_kind-true}
use Rattle.undo_model.proofs.UndoneLaws.{undone-undoes}

-- ---- scalars
scalar-left : (before after now : Option (List ℕ)) → before ≡ after → undone_scalar before after now ≡ now
scalar-left before after now e =
    ap (λ o. undone_scalar o after now) e ∙ cond-true (scalars_same after after) now after (itself after)
  where
    itself : (o : Option (List ℕ)) → scalars_same o o ≡ true
    itself None = refl
    itself (Some text) = bytes_eq-same text

-- ---- lists: whether an item was before, is after, and is there now
stay : (a n : Bool) → n ≡ ((a && not a) || (n && not (a && not a)))
stay true true = refl
stay true false = refl
stay false true = refl
stay false false = refl

turn : (b a : Bool) → a ≡ ((a && not b) || (b && not (b && not a)))
turn true true = refl
turn true false = refl
turn false true = refl
turn false false = refl

join : (b a n : Bool) → (((not b || a) && n) || ((not b && not n) && a)) ≡ ((a && not b) || (n && not (b && not a)))
join true true true = refl
join true true false = refl
join true false true = refl
join true false false = refl
join false true true = refl
join false true false = refl
join false false true = refl
join false false false = refl

module _ {T : Type 0} (same : T → T → Bool) (exact : (a b : T) → same a b ≡ true → a ≡ b) (itself : (a : T)
    → same a a ≡ true) where
  in-filter : (p : T → Bool) (xs : List T) (x : T) → is_in same (filter p xs) x ≡ (p x && is_in same xs x)
  in-filter p xs x = any-filter_same (λ other. same other x) p (p x) (λ k t. ap p (exact k x t)) xs

  joined-items : (before after now : List T) → ChangesByItems same before after now (joined same before after now)
  joined-items before after now x =
      let left : List T = filter (stays same before after) now in
      let gained : List T = filter (is_gained same before now) after in
      let merged : List T = left ++ first_occurrences same gained in
      let b : Bool = is_in same before x in
      let a : Bool = is_in same after x in
      elim (cases_Bool (are_same same now before)) [
        | inl t ↦
            ap (λ (l : List T). is_in same l x) (cond-true (are_same same now before) after merged t)
            ∙ turn b a
            ∙ ap (λ (l : List T). (a && not b) || (is_in same l x && not (b && not a)))
            (sym (are_same-exact same exact now before t))
        | inr f ↦
            ap (λ (l : List T). is_in same l x) (cond-false (are_same same now before) after merged f)
            ∙ list_any-append (λ other. same other x) left (first_occurrences same gained)
            ∙ ap₂ (λ (p q : Bool). p || q) (in-filter (stays same before after) now x) (is_in-first same exact gained x
            ∙ in-filter (is_gained same before now) after x)
            ∙ join b a (is_in same now x)
      ]

  undone-items : (before after now : List T) → ChangesByItems same after before now (undone_list same before after now)
  undone-items before after now x =
      let b : Bool = is_in same before x in
      let a : Bool = is_in same after x in
      let n : Bool = is_in same now x in
      elim (cases_Bool (are_same same before after)) [
        | inl t ↦
            ap (λ (l : List T). is_in same l x)
            (cond-true (are_same same before after) now (joined same after before now) t)
            ∙ stay a n
            ∙ ap (λ (l : List T). (is_in same l x && not a) || (n && not (a && not (is_in same l x))))
            (sym (are_same-exact same exact before after t))
        | inr f ↦
            ap (λ (l : List T). is_in same l x)
            (cond-false (are_same same before after) now (joined same after before now) f)
            ∙ joined-items after before now x
      ]

  list-left : (before after now : List T) → before ≡ after → undone_list same before after now ≡ now
  list-left before after now e =
      ap (λ (l : List T). undone_list same l after now) e
      ∙ cond-true (are_same same after after) now (joined same after after now) (are_same-same same itself after)

-- ---- elements
undoes-leaves : (pair : Pair) (now new : ElementValue) → pair.after.kind ≡ now.kind
    → Undoes pair.before pair.after now new → Leaves pair now new
undoes-leaves pair now new kind undoes = record {
  kind = undoes.stamp.kind;
  scalars = λ name e. undoes.scalars name
      ∙ scalar-left (scalar_of pair.before name) (scalar_of pair.after name) (scalar_of now name) (own e);
  groups = λ e. undoes.groups ∙ list-left bytes_eq bytes_eq-true bytes_eq-same pair.before.groups pair.after.groups
      now.groups (own e);
  group_items = λ e item.
      ap (λ (l : List (List ℕ)). is_in bytes_eq l item) undoes.groups
      ∙ undone-items bytes_eq bytes_eq-true bytes_eq-same pair.before.groups pair.after.groups now.groups item;
  bound = λ e.
      undoes.bound
      ∙ list-left same_listing_entry same_listing_entry-exact same_listing_entry-same pair.before.bound pair.after.bound
      now.bound (own e);
  bound_items = λ e item.
      ap (λ l. is_in same_listing_entry l item) undoes.bound
      ∙ undone-items same_listing_entry same_listing_entry-exact same_listing_entry-same pair.before.bound
      pair.after.bound now.bound item;
}
  where
    own : {P : Type 0} → P ⊎ (pair.after.kind ≢ now.kind) → P
    own (inl p) = p
    own (inr apart) = absurd (apart kind)

itself-leaves : (pair : Pair) (now : ElementValue) → pair.after.kind ≢ now.kind → Leaves pair now now
itself-leaves pair now apart = record {
  kind = refl;
  scalars = λ name e. refl;
  groups = λ e. refl;
  group_items = λ e. absurd (apart e);
  bound = λ e. refl;
  bound_items = λ e. absurd (apart e);
}

-- undoing a pair leaves what it is to leave
pub undone-leaves : (pair : Pair) (now : ElementValue) → IsOfElements pair → pair.before.kind ≡ pair.after.kind
    → IsElement now → HasValidTexts now
    → Leaves pair now (undone pair now)
undone-leaves pair now of kind isnow wnow =
    let own = undone-undoes pair now of kind isnow wnow in
    elim (cases_Bool (same_kind pair.after.kind now.kind)) [
      | inl t ↦ let here = same_kind-true pair.after.kind now.kind of.1.0.kind isnow.kind t in
          undoes-leaves pair now (undone pair now) here (own.undone here)
      | inr f ↦
          let apart : pair.after.kind ≢ now.kind =
          λ e. both_ways (same_kind pair.after.kind now.kind) f (ap (same_kind pair.after.kind) (sym e)
          ∙ same_kind-same pair.after.kind) in
          subst (Leaves pair now) (sym (own.other apart)) (itself-leaves pair now apart)
    ]
