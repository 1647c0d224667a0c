-- What a command gives has its stamp, and what isn't given stays.
use Rattle.std.proofs.Common.{◌≡◌, ◌≢◌, ℕ, true, false, List, [], map, bytes_eq, Option, Some, None, Ok, Contains, IsSomeAnd, inl, inr, refl, sym, ap, ◌∙◌, subst, arith}
use Rattle.std.specs.Option.{option_or}
use Rattle.std.proofs.lemmas.Bool.{both_ways}
use Rattle.std.proofs.lemmas.Option.{none-some, same_Some}
use Rattle.json_text.proofs.CallerLemmas.{Contains-map, Contains-to_map}
use Rattle.frac_keys.specs.Rising.{are_rising}
use Rattle.elem.specs.ElementValue.{ElementValue}
use Rattle.elem.specs.Order.{has_id, unstamped}
use Rattle.elem.specs.Stamp.{stamped}
use Rattle.elem_store.specs.Updates.{element_of, ids_of, is_among}
use Rattle.elem_store.proofs.CallerLemmas.{Contains-cases, find-Some, list_any-false, same_id}
use Rattle.view.specs.Shown.{is_live}
use Rattle.board_commands.specs.declared.command.Command.{Command}
use Rattle.board_commands.specs.declared.command.Command.TheVariants as commands
use Rattle.effects.specs.Changed.{created, created_at, outcome}
use Rattle.effects.specs.Copying.{as_new}
use Rattle.effects.specs.Effects.{effect}
use Rattle.effects.specs.Given.{stored_after, Stays}
use Rattle.effects.specs.Placing.{settled_key, with_view_key}
use Rattle.effects.proofs.CallerLemmas.{created-nonce, given-cases, given-seen}

-- ---- options
pub some-at : {X : Type 0} (P : X → Type 0) (o : Option X) (x : X) → o ≡ Some x → IsSomeAnd o P → P x
some-at P o x is holds = subst (λ o. IsSomeAnd o P) is holds

pub some-weaker : {X : Type 0} (P Q : X → Type 0) (o : Option X) → ((x : X) → P x → Q x) → IsSomeAnd o P
    → IsSomeAnd o Q
some-weaker P Q None more holds = holds
some-weaker P Q (Some x) more holds = more x holds

-- ---- new elements
copies-time : (time nonce : ℕ) (es : List ElementValue) (e : ElementValue) → Contains (map (as_new time nonce) es) e
    → e.updated ≡ time
copies-time time nonce es e c = let new = Contains-map (as_new time nonce) es e c in
    ap (λ (d : ElementValue). d.updated) (sym new.2)

created-time : (shown : List ElementValue) (time nonce : ℕ) (command : Command) (e : ElementValue)
    → Contains (created shown command time nonce) e → e.updated ≡ time
created-time shown time nonce (commands.Create element spot) e c =
    elim (Contains-cases (created_at shown element spot time nonce) [] e c) [
      | inl is ↦ ap (λ (d : ElementValue). d.updated) (sym is)
      | inr none ↦ absurd (omega (arith, none.1))
    ]
created-time shown time nonce (commands.Duplicate ids prefix spot) e c = copies-time time nonce _ e c
created-time shown time nonce (commands.Paste elements prefix spot) e c = copies-time time nonce _ e c
created-time shown time nonce command e c = absurd (omega (arith, c.1))

module _ (stored shown : List ElementValue) (command : Command) (time nonce : ℕ) (given : List ElementValue)
    (told : outcome stored shown command time nonce ≡ Ok given) (ordered : are_rising (ids_of stored) ≡ true) where
  abbrev makes : ElementValue → ElementValue
  makes = effect stored shown command

  -- ---- what is given
  pub given-time : (e : ElementValue) → Contains given e → e.updated ≡ time
  given-time e c = elim (given-cases stored shown command time nonce given told ordered e c) [
    | inl change ↦ ap (λ (d : ElementValue). d.updated) change.is
    | inr new ↦ created-time shown time nonce command e new.is
  ]

  pub given-nonce : (e : ElementValue) → Contains given e → e.nonce ≡ nonce
  given-nonce e c = elim (given-cases stored shown command time nonce given told ordered e c) [
    | inl change ↦ ap (λ (d : ElementValue). d.nonce) change.is
    | inr new ↦ created-nonce stored shown time nonce command e new.is
  ]

  -- what is given of a stored element is what the command makes of it, stamped
  pub given-change : (e old : ElementValue) → Contains given e → element_of stored e.id ≡ Some old
      → e ≡ stamped time nonce (makes old)
  given-change e old c found = elim (given-cases stored shown command time nonce given told ordered e c) [
    | inl change ↦ change.is
        ∙ ap (λ (d : ElementValue). stamped time nonce (makes d)) (same_Some change.old old (sym change.found ∙ found))
    | inr new ↦ absurd (none-some old (sym new.unknown ∙ found))
  ]

  -- an id that isn't stored, and isn't a new element's, isn't given
  pub nothing-new : (id : List ℕ) → element_of stored id ≡ None
      → is_among (ids_of (created shown command time nonce)) id ≡ false → Stays stored given id
  nothing-new id free apart = by (element_of given id) refl
    where
      by : (o : Option ElementValue) → element_of given id ≡ o → Stays stored given id
      by None none = ap (λ o. option_or o (element_of stored id)) none
      by (Some e) is =
          let at = find-Some (has_id id) given e is in
          elim (given-cases stored shown command time nonce given told ordered e at.0) [
            | inl change ↦ absurd (none-some change.old
                (sym free ∙ ap (element_of stored) (same_id id e at.1) ∙ change.found))
            | inr new ↦ absurd (both_ways (bytes_eq id e.id)
                (list_any-false (bytes_eq id) (ids_of (created shown command time nonce)) e.id apart
                (Contains-to_map (λ (d : ElementValue). d.id) (created shown command time nonce) e new.is)) at.1)
          ]

  module _ (id : List ℕ) (old : ElementValue) (found : element_of stored id ≡ Some old) where
    -- what is given with its id
    given-at : (e : ElementValue) → element_of given id ≡ Some e → Contains given e × (e ≡ stamped time nonce (makes old))
    given-at e is =
        let at = find-Some (has_id id) given e is in
        (at.0, given-change e old at.0 (ap (element_of stored) (sym (same_id id e at.1)) ∙ found))

    -- an element that the command leaves as it is stays, its stamp too
    pub stays : unstamped (makes old) ≡ unstamped old → Stays stored given id
    stays same = by (element_of given id) refl
      where
        by : (o : Option ElementValue) → element_of given id ≡ o → Stays stored given id
        by None none = ap (λ o. option_or o (element_of stored id)) none
        by (Some e) is =
            let at = given-at e is in
            let own : element_of stored e.id ≡ Some old =
            ap (element_of stored) (sym (same_id id e (find-Some (has_id id) given e is).1)) ∙ found in
            elim (given-seen stored shown command time nonce given told ordered e at.0) [
              | inl changed ↦ absurd ((some-at (λ (d : ElementValue). (is_live d ≡ true) × (unstamped d ≢ unstamped e))
                  (element_of stored e.id) old own changed).1 (sym same ∙ sym (ap unstamped at.1)))
              | inr new ↦ absurd (none-some old (sym new.unknown ∙ own))
            ]

    -- one that becomes another one is given, stamped
    pub stamped-given : IsSomeAnd (stored_after stored given id) (λ (e : ElementValue). unstamped e ≡ unstamped
        (makes old)) → unstamped (makes old) ≢ unstamped old → element_of given id ≡ Some (stamped time nonce (makes old))
    stamped-given after other = by (element_of given id) refl
      where
        by : (o : Option ElementValue) → element_of given id ≡ o → element_of given id ≡ Some (stamped time nonce
            (makes old))
        by None none = absurd (other (sym
            (some-at (λ (e : ElementValue). unstamped e ≡ unstamped (makes old)) (stored_after stored given id) old
            (ap (λ o. option_or o (element_of stored id)) none ∙ found) after)))
        by (Some e) is = is ∙ ap Some (given-at e is).1

    -- ---- keys that settle
    module _ (seen : List ElementValue) (made : makes old ≡ with_view_key seen old) where
      pub key-given : IsSomeAnd (stored_after stored given id) (λ (e : ElementValue). unstamped e ≡ unstamped
          (makes old)) → settled_key seen old ≢ old.index
          → element_of given id ≡ Some (stamped time nonce (with_view_key seen old))
      key-given after other =
          stamped-given after
          (λ same. other (ap (λ (d : ElementValue). d.index) (sym (ap unstamped made) ∙ same)))
          ∙ ap (λ (d : ElementValue). Some (stamped time nonce d)) made

      pub key-stays : settled_key seen old ≡ old.index → Stays stored given id
      key-stays same = stays
          (ap unstamped made ∙ ap (λ (key : Option (List ℕ)). unstamped (record old { index = key })) same)
