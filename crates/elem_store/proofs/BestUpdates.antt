-- What holds of stored elements.
use Rattle.std.proofs.Common.{◌≡◌, ℕ, true, false, ◌&&◌, List, [], ◌∷◌, Some, None, is_some, Contains, filter, refl, sym, ap, ◌∙◌, subst, arith}
use Rattle.std.specs.List.{list_any}
use Rattle.std.proofs.lemmas.Bool.{and_parts, not-true}
use Rattle.std.proofs.Math.Bool.{and-true}
use Rattle.std.proofs.lemmas.List.Elements.{All-contains}
use Rattle.elem.specs.ElementValue.{ElementValue}
use Rattle.elem.specs.Order.{beats, has_id}
use Rattle.elem.specs.Facts.{IsElement}
use Rattle.elem.specs.Said.{HasValidTexts, AreElements}
use Rattle.elem.proofs.CallerLemmas.{beats-neither, text-of-one}
use Rattle.elem_store.specs.Updates.{is_unbeaten, is_best, best_updates, stored_of}
use Rattle.elem_store.proofs.Ids.{same_id}
use Rattle.elem_store.proofs.Lists.{find-Some, list_any-false, filter-Contains, Contains-filter, list_any-filter}
use Rattle.elem_store.proofs.Leader.{leader, stored-leader}

-- a best update is an update of its id, which no update of that id beats
pub record IsBestOf (updates : List ElementValue) (id : List ℕ) (e : ElementValue) : Type 0 where
  pub taken : Contains updates e
  pub named : has_id id e ≡ true
  pub unbeaten : (other : ElementValue) → Contains updates other → has_id id other ≡ true → beats other e ≡ false

IsBestOf-from : (updates : List ElementValue) (id : List ℕ) (e : ElementValue) → Contains updates e
    → is_best updates id e ≡ true → IsBestOf updates id e
IsBestOf-from updates id e c h =
    let parts = and_parts (has_id id e) (is_unbeaten updates e) h in
    let none = not-true (list_any (λ other. has_id e.id other && beats other e) updates) parts.1 in
    record {
      taken = c;
      named = parts.0;
      unbeaten = λ other among of.
          let both = list_any-false (λ other. has_id e.id other && beats other e) updates other none among in
          let own : has_id e.id other ≡ true = subst (λ i. has_id i other ≡ true) (same_id id e parts.0) of in
          sym (ap (λ b. b && beats other e) own) ∙ both;
    }

pub IsBestOf-stored : (updates : List ElementValue) (id : List ℕ) (e : ElementValue) → stored_of updates id ≡ Some e
    → IsBestOf updates id e
unfolding stored_of
IsBestOf-stored updates id e h =
    let found = find-Some (is_best updates id) updates e h in
    IsBestOf-from updates id e found.0 found.1

pub IsBestOf-best : (updates : List ElementValue) (id : List ℕ) (e : ElementValue)
    → Contains (best_updates updates id) e → IsBestOf updates id e
IsBestOf-best updates id e c =
    let kept = filter-Contains (is_best updates id) updates e c in
    IsBestOf-from updates id e kept.0 kept.1

-- the stored element is one of the best updates
pub stored-best : (updates : List ElementValue) (id : List ℕ) (e : ElementValue) → stored_of updates id ≡ Some e
    → Contains (best_updates updates id) e
unfolding stored_of
stored-best updates id e h =
    let found = find-Some (is_best updates id) updates e h in
    Contains-filter (is_best updates id) updates e found.0 found.1

-- best updates of one id have one text, so they are the same
pub best-same : (updates : List ElementValue) (id : List ℕ) (e other : ElementValue) → AreElements updates
    → IsBestOf updates id e → IsBestOf updates id other → e ≡ other
best-same updates id e other all best best' =
    let is = All-contains (λ e. IsElement e × HasValidTexts e) updates e all best.taken in
    let is' = All-contains (λ e. IsElement e × HasValidTexts e) updates other all best'.taken in
    let same =
    beats-neither e other (best'.unbeaten e best.taken best.named) (best.unbeaten other best'.taken best'.named) in
    text-of-one e other is.0 is.1 is'.0 is'.1 same.2

leader-None : (updates : List ElementValue) (e : ElementValue) → leader updates ≡ None → Contains updates e → ⊥
leader-None [] e h c = omega (arith, c.1)
leader-None (first ∷ updates) e h c = cc

-- an id has no stored element only if no update has it
pub stored-None : (updates : List ElementValue) (id : List ℕ) (e : ElementValue) → stored_of updates id ≡ None
    → Contains updates e → has_id id e ≡ true → ⊥
stored-None updates id e h c of =
    leader-None (filter (has_id id) updates) e (sym (stored-leader updates id)
    ∙ h) (Contains-filter (has_id id) updates e c of)

is_some-leader : (updates : List ElementValue) → is_some (leader updates) ≡ list_any (λ _. true) updates
is_some-leader [] = refl
is_some-leader (e ∷ updates) = refl

-- an id has a stored element exactly if an update has it
pub is_some-stored : (updates : List ElementValue) (id : List ℕ)
    → is_some (stored_of updates id) ≡ list_any (has_id id) updates
is_some-stored updates id =
    ap is_some (stored-leader updates id) ∙ is_some-leader (filter (has_id id) updates)
    ∙ sym (list_any-filter (has_id id) (λ _. true) updates) ∙ (λ i. list_any (λ e. and-true (has_id id e) i) updates)
