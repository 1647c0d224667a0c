-- What a command leaves as it is stays, and what it names becomes what the command makes of it.
use Rattle.std.proofs.Common.{◌≡◌, ℕ, true, false, not, List, [], Option, Some, is_some, Ok, Contains, IsSomeAnd, find, if◌then◌else◌, inl, inr, sym, ap, ◌∙◌, subst}
use Rattle.std.specs.Option.{option_map_or}
use Rattle.std.proofs.lemmas.Bool.{cases_Bool, false≢true, both_ways, not-false, cond-true, cond-false}
use Rattle.std.proofs.lemmas.Map.Views.{Contains-from_any}
use Rattle.std.proofs.lemmas.Option.{none-some, same_Some}
use Rattle.json_text.proofs.CallerLemmas.{bytes_eq-true}
use Rattle.frac_keys.specs.Rising.{are_rising}
use Rattle.elem.specs.ElementValue.{ElementValue}
use Rattle.elem.specs.Order.{unstamped, has_id}
use Rattle.elem_store.specs.Updates.{element_of, ids_of, is_among}
use Rattle.elem_store.proofs.CallerLemmas.{same_id, find-Some, is_some-find, list_any-false}
use Rattle.view.specs.Shown.{is_live}
use Rattle.board_commands.specs.declared.command.Command.{Command}
use Rattle.effects.specs.Changed.{created, outcome}
use Rattle.effects.specs.Differing.{differs}
use Rattle.effects.specs.Effects.{effect}
use Rattle.effects.specs.Given.{stored_after, Stays, Becomes}
use Rattle.effects.specs.declared.refusal.Refusal.TheVariants.{NoElement}
use Rattle.effects.specs.Refusals.{first_missing, is_live_id, command_ids, own_spot}
use Rattle.effects.proofs.DifferingLaws.{differs-not}
use Rattle.effects.proofs.CreatedLaws.{some-or-none, unmapped}
use Rattle.effects.proofs.OutcomeLaws.{or-none, none-missing, stored_after-kept, not-created, not-given, after-live, after-dead}

-- ---- ids
-- the element of an id has it
pub own-id : (elements : List ElementValue) (id : List ℕ) (e : ElementValue) → element_of elements id ≡ Some e
    → id ≡ e.id
own-id elements id e found = same_id id e (find-Some (has_id id) elements e found).1

pub among-Contains : (ids : List (List ℕ)) (id : List ℕ) → is_among ids id ≡ true → Contains ids id
among-Contains ids id h = Contains-from_any bytes_eq-true id ids h

-- what is made of an element that is among the ids, and of one that isn't
pub chosen : (ids : List (List ℕ)) (id own : List ℕ) (x y : ElementValue) → id ≡ own → is_among ids id ≡ true
    → (if is_among ids own then x else y) ≡ x
chosen ids id own x y is h = cond-true (is_among ids own) x y (subst (λ i. is_among ids i ≡ true) is h)

pub passed : (ids : List (List ℕ)) (id own : List ℕ) (x y : ElementValue) → id ≡ own → is_among ids id ≡ false
    → (if is_among ids own then x else y) ≡ y
passed ids id own x y is h = cond-false (is_among ids own) x y (subst (λ i. is_among ids i ≡ false) is h)

pub live-found : (stored : List ElementValue) (id : List ℕ) → is_live_id stored id ≡ true → (old : ElementValue)
    × (element_of stored id ≡ Some old) × (is_live old ≡ true)
live-found stored id h = elim (some-or-none (element_of stored id)) [
  | inl none ↦ absurd (false≢true (sym (ap (λ (o : Option ElementValue). option_map_or is_live o false) none) ∙ h))
  | inr some ↦ (some.0, some.1, sym (ap (λ (o : Option ElementValue). option_map_or is_live o false) some.1) ∙ h)
]

pub at-some : {X : Type 0} (P : X → Type 0) (o : Option X) (x : X) → o ≡ Some x → P x → IsSomeAnd o P
at-some P o x is p = subst (λ o. IsSomeAnd o P) (sym is) p

-- ---- what is named is live; what stays, and what becomes of elements
module _ (stored shown : List ElementValue) (command : Command) (time nonce : ℕ) (given : List ElementValue)
    (told : outcome stored shown command time nonce ≡ Ok given) where
  pub named-live : (id : List ℕ) → Contains (command_ids command) id → (old : ElementValue)
      × (element_of stored id ≡ Some old) × (is_live old ≡ true)
  named-live id c =
      let missing' = (λ (id : List ℕ). not (is_live_id stored id)) in
      let none = unmapped NoElement (find missing' (command_ids command))
      (or-none (first_missing stored (command_ids command)) (own_spot command)
      (none-missing stored shown command time nonce given told)).0 in
      live-found stored id
      (not-false (is_live_id stored id)
      (list_any-false missing' (command_ids command) id (sym (is_some-find missing' (command_ids command))
      ∙ ap is_some none) c))

  module _ (ordered : are_rising (ids_of stored) ≡ true) where
    abbrev makes : ElementValue → ElementValue
    makes = effect stored shown command

    -- what the command leaves as it is stays, its stamp too
    pub stays : created shown command time nonce ≡ [] → (id : List ℕ)
        → ((old : ElementValue) → element_of stored id ≡ Some old → makes old ≡ old) → Stays stored given id
    stays nothing id same = elim (some-or-none (element_of stored id)) [
      | inl none ↦ stored_after-kept stored given id (not-created stored shown command time nonce given told ordered id
          none nothing)
      | inr some ↦ stored_after-kept stored given id
          (not-given stored shown command time nonce given told ordered id some.0 some.1
          (λ live differ. both_ways (differs some.0 (makes some.0))
          (differs-not some.0 (makes some.0) (ap unstamped (sym (same some.0 some.1)))) differ))
    ]

    -- of a live element what the command makes of it is stored, but for the stamp
    pub of-live : (P : ElementValue → Type 0) (id : List ℕ) (old : ElementValue) → element_of stored id ≡ Some old
        → is_live old ≡ true → ((e : ElementValue) → unstamped e ≡ unstamped (makes old) → P e)
        → IsSomeAnd (stored_after stored given id) P
    of-live P id old found live holds =
        let new = after-live stored shown command time nonce given told ordered id old found live in
        at-some P (stored_after stored given id) new.0 new.1 (holds new.0 new.2)

    -- of what is stored then of a named id this holds, if it holds of all that the command makes of the live element,
    -- but for the stamp
    pub named-after : (P : ElementValue → Type 0) (id : List ℕ) → Contains (command_ids command) id
        → ((old : ElementValue) → element_of stored id ≡ Some old → is_live old ≡ true → (e : ElementValue)
        → unstamped e ≡ unstamped (makes old) → P e)
        → IsSomeAnd (stored_after stored given id) P
    named-after P id c holds =
        let old = named-live id c in
        of-live P id old.0 old.1 old.2 (holds old.0 old.1 old.2)

    -- and a named one becomes that
    pub becomes : (P : ElementValue → ElementValue → Type 0) (id : List ℕ) → Contains (command_ids command) id
        → ((old e : ElementValue) → element_of stored id ≡ Some old → unstamped e ≡ unstamped (makes old) → P old e)
        → Becomes stored given id P
    becomes P id c holds =
        let old = named-live id c in
        at-some (λ (o : ElementValue). IsSomeAnd (stored_after stored given id) (λ (e : ElementValue). P o e))
        (element_of stored id) old.0 old.1
        (of-live (P old.0) id old.0 old.1 old.2 (λ e same. holds old.0 e old.1 same))

    -- and a live element that is stored then was live before, or is new
    pub live-before : created shown command time nonce ≡ [] → (id : List ℕ) (e : ElementValue)
        → stored_after stored given id ≡ Some e → is_live e ≡ true
        → (old : ElementValue) × (element_of stored id ≡ Some old) × (unstamped e ≡ unstamped (makes old))
    live-before nothing id e is live = elim (some-or-none (element_of stored id)) [
      | inl none ↦ absurd (none-some e
          (sym none
          ∙ sym (stored_after-kept stored given id (not-created stored shown command time nonce given told ordered
          id none nothing)) ∙ is))
      | inr some ↦ elim (cases_Bool (is_live some.0)) [
        | inl alive ↦
            let new = after-live stored shown command time nonce given told ordered id some.0 some.1 alive in
            (some.0, some.1, ap unstamped (sym (same_Some new.0 e (sym new.1 ∙ is))) ∙ new.2)
        | inr dead ↦ absurd
            (let same =
            same_Some some.0 e (sym (after-dead stored shown command time nonce given told ordered id some.0 some.1
            dead) ∙ is) in
            false≢true (sym dead ∙ ap is_live same ∙ live))
      ]
    ]
