-- What a command gives, told of its outcome: each element is what it makes of a live stored one, stamped, or the new
-- one.
use Rattle.std.proofs.Common.{◌≡◌, ℕ, ◌+◌, ◌<◌, true, false, not, ◌&&◌, ◌⊎◌, List, [], ◌∷◌, Option, Some, None, Result, Ok, Err, Contains, IsSomeAnd, find, bytes_eq, inl, inr, refl, sym, ap, ◌∙◌, subst, arith}
use Rattle.std.specs.List.{cons_option, filter_map}
use Rattle.std.specs.Option.{option_or}
use Rattle.std.proofs.lemmas.Bool.{cases_Bool, false≢true, both_ways, and_parts, and_from, cond-true, lt-ltb}
use Rattle.std.proofs.lemmas.Option.{none-some, same_Some, cond_some}
use Rattle.frac_keys.specs.Rising.{ends_rise, rise_between, are_rising}
use Rattle.frac_keys.proofs.CallerLemmas.{rise_between-lower}
use Rattle.elem.specs.ElementValue.{ElementValue}
use Rattle.elem.specs.Order.{beats, unstamped, has_id, HaveDistinctIds}
use Rattle.elem.specs.Stamp.{stamped}
use Rattle.elem_store.specs.Updates.{element_of, ids_of, is_newer, is_taken}
use Rattle.elem_store.proofs.CallerLemmas.{same_id, Contains-head, Contains-cons, Contains-cases, find-Some, find-None, member}
use Rattle.delta.specs.Pairs.{pair_with, IsChanged}
use Rattle.view.specs.Shown.{is_live}
use Rattle.board_commands.specs.declared.command.Command.{Command}
use Rattle.effects.specs.declared.refusal.Refusal.{Refusal}
use Rattle.effects.specs.Changed.{is_changed, is_full, change_of, changes_of, created, with_created, outcome, outcome_from, outcome_unless, refusal_at}
use Rattle.effects.specs.Differing.{differs}
use Rattle.effects.specs.Effects.{effect}
use Rattle.effects.specs.Given.{stored_after, ChangesStored, IsNew}
use Rattle.effects.specs.Refusals.{refusal_of, existing, missing, misfit, guarded}
use Rattle.effects.proofs.CreatedLaws.{absent, created-cases, created-fresh, created-kept, created-rises, created-there, created-unknown, some-or-none}
use Rattle.effects.proofs.DifferingLaws.{same-where-not, differs-not}
use Rattle.effects.proofs.KeepingLaws.{Self, effect-keeps}

-- none of two where the first of them is none
pub or-none : {X : Type 0} (o p : Option X) → option_or o p ≡ None → (o ≡ None) × (p ≡ None)
or-none None p h = (refl, h)
or-none (Some x) p h = absurd (none-some x (sym h))

-- a given element, and else the stored one
pub stored_after-given : (stored given : List ElementValue) (id : List ℕ) (e : ElementValue)
    → element_of given id ≡ Some e → stored_after stored given id ≡ Some e
stored_after-given stored given id e is = ap (λ o. option_or o (element_of stored id)) is

pub stored_after-kept : (stored given : List ElementValue) (id : List ℕ) → element_of given id ≡ None
    → stored_after stored given id ≡ element_of stored id
stored_after-kept stored given id none = ap (λ o. option_or o (element_of stored id)) none

-- ---- what a function of elements gives of them
module _ (f : ElementValue → Option ElementValue) where
  pub mapped-cases : (es : List ElementValue) (e : ElementValue) → Contains (filter_map f es) e → (old : ElementValue)
      × Contains es old × (f old ≡ Some e)
  mapped-cases [] e c = absurd (omega (arith, c.1))
  mapped-cases (x ∷ xs) e c =
      elim (some-or-none (f x)) [
        | inl none ↦
            let there =
            mapped-cases xs e (subst (λ (o : Option ElementValue). Contains (cons_option o (filter_map f xs)) e)
            none c) in
            (there.0, Contains-cons x xs there.0 there.1, there.2)
        | inr some ↦
            elim (Contains-cases some.0 (filter_map f xs) e
            (subst (λ (o : Option ElementValue). Contains (cons_option o (filter_map f xs)) e) some.1 c)) [
              | inl same ↦ (x, Contains-head x xs, some.1 ∙ ap Some same)
              | inr later ↦ let there =
                  mapped-cases xs e later in (there.0, Contains-cons x xs there.0 there.1, there.2)
            ]
      ]

  mapped-there : (es : List ElementValue) (old e : ElementValue) → Contains es old → f old ≡ Some e
      → Contains (filter_map f es) e
  mapped-there [] old e c is = absurd (omega (arith, c.1))
  mapped-there (x ∷ xs) old e c is =
      elim (Contains-cases x xs old c) [
        | inl same ↦ subst (λ (o : Option ElementValue). Contains (cons_option o (filter_map f xs)) e)
            (sym (ap f same ∙ is)) (Contains-head e (filter_map f xs))
        | inr later ↦ elim (some-or-none (f x)) [
          | inl none ↦ subst (λ (o : Option ElementValue). Contains (cons_option o (filter_map f xs)) e) (sym none)
              (mapped-there xs old e later is)
          | inr some ↦ subst (λ (o : Option ElementValue). Contains (cons_option o (filter_map f xs)) e) (sym some.1)
              (Contains-cons some.0 (filter_map f xs) e (mapped-there xs old e later is))
        ]
      ]

  pub mapped-rises : ((old e : ElementValue) → f old ≡ Some e → e.id ≡ old.id)
      → (a : Option (List ℕ)) (es : List ElementValue) → rise_between a None (ids_of es) ≡ true
      → rise_between a None (ids_of (filter_map f es)) ≡ true
  mapped-rises keeps a [] h = h
  mapped-rises keeps a (e ∷ es) h =
      let parts = and_parts (ends_rise a (Some e.id)) (rise_between (Some e.id) None (ids_of es)) h in
      let later = mapped-rises keeps (Some e.id) es parts.1 in
      elim (some-or-none (f e)) [
        | inl none ↦ subst (λ (o : Option ElementValue). rise_between a None (ids_of (cons_option o (filter_map f es)))
            ≡ true) (sym none) (rise_between-lower a e.id (ids_of (filter_map f es)) parts.0 later)
        | inr some ↦ subst (λ (o : Option ElementValue). rise_between a None (ids_of (cons_option o (filter_map f es)))
            ≡ true) (sym some.1)
            (subst (λ (k : List ℕ). (ends_rise a (Some k) && rise_between (Some k) None (ids_of (filter_map f es)))
            ≡ true) (sym (keeps e some.0 some.1))
            (and_from (ends_rise a (Some e.id)) (rise_between (Some e.id) None (ids_of (filter_map f es))) parts.0
            later))
      ]

-- ---- what is given
-- what the command makes of the live stored element of its id, from which it differs, stamped
pub record IsChangeOf (stored shown : List ElementValue) (command : Command) (time nonce : ℕ) (e : ElementValue) :
    Type 0 where
  pub old : ElementValue
  pub found : element_of stored e.id ≡ Some old
  pub live : is_live old ≡ true
  pub differ : differs old (effect stored shown command old) ≡ true
  pub is : e ≡ stamped time nonce (effect stored shown command old)

-- the new element of the command
pub record IsCreated (stored shown : List ElementValue) (command : Command) (time nonce : ℕ) (e : ElementValue) :
    Type 0 where
  pub unknown : element_of stored e.id ≡ None
  pub is : Contains (created shown command time nonce) e

err-ok : (refusal : Refusal) (given : List ElementValue)
    → ◌≡◌ {A = Result (List ElementValue) Refusal} (Err refusal) (Ok given) → ⊥
err-ok refusal given h = cc

ok-same : (es given : List ElementValue) → ◌≡◌ {A = Result (List ElementValue) Refusal} (Ok es) (Ok given) → es ≡ given
ok-same es given h = cc

from-ok : (full : Option ElementValue) (new changes given : List ElementValue)
    → outcome_from full new changes ≡ Ok given → (full ≡ None) × (given ≡ with_created new changes)
from-ok None new changes given h = (refl, sym (ok-same (with_created new changes) given h))
from-ok (Some full) new changes given h = absurd (err-ok (refusal_at full) given h)

newer : (e old : ElementValue) → e.version ≡ old.version + 1 → beats e old ≡ true
newer e old more =
    let less : old.version < e.version = omega (arith, more) in
    rw (lt-ltb old.version e.version less) refl

module _ (stored shown : List ElementValue) (command : Command) (time nonce : ℕ) (given : List ElementValue)
    (told : outcome stored shown command time nonce ≡ Ok given) where
  abbrev makes : ElementValue → ElementValue
  makes = effect stored shown command

  abbrev changes : List ElementValue
  changes = changes_of makes time nonce stored

  reached : (r : Option Refusal) → outcome_unless r stored shown command time nonce ≡ Ok given → (r ≡ None)
      × (outcome_unless None stored shown command time nonce ≡ Ok given)
  reached None h = (refl, h)
  reached (Some refusal) h = absurd (err-ok refusal given h)

  -- nothing refused it
  pub allowed : refusal_of stored shown command ≡ None
  allowed = (reached (refusal_of stored shown command) told).0

  pub none-existing : existing stored command ≡ None
  none-existing =
      (or-none (existing stored command) (option_or (missing stored command)
      (option_or (misfit stored shown command) (guarded command))) allowed).0

  not-existing : option_or (missing stored command) (option_or (misfit stored shown command) (guarded command)) ≡ None
  not-existing =
      (or-none (existing stored command) (option_or (missing stored command)
      (option_or (misfit stored shown command) (guarded command))) allowed).1

  pub none-missing : missing stored command ≡ None
  none-missing =
      (or-none (missing stored command) (option_or (misfit stored shown command) (guarded command)) not-existing).0

  pub none-misfit : misfit stored shown command ≡ None
  none-misfit =
      (or-none (misfit stored shown command) (guarded command)
      (or-none (missing stored command) (option_or (misfit stored shown command) (guarded command)) not-existing).1).0

  parts : (find (is_full makes) stored ≡ None) × (given ≡ with_created (created shown command time nonce) changes)
  parts = from-ok (find (is_full makes) stored) (created shown command time nonce) changes given
      (reached (refusal_of stored shown command) told).1

  pub none-full : find (is_full makes) stored ≡ None
  none-full = parts.0

  pub given-is : given ≡ with_created (created shown command time nonce) changes
  given-is = parts.1

  change-parts : (old e : ElementValue) → change_of makes time nonce old ≡ Some e → (is_live old ≡ true)
      × (differs old (makes old) ≡ true) × (e ≡ stamped time nonce (makes old))
  change-parts old e h =
      let one = cond_some (is_changed makes old) (stamped time nonce (makes old)) e h in
      let both = and_parts (is_live old) (differs old (makes old)) one.0 in
      (both.0, both.1, sym one.1)

  change-id : (old e : ElementValue) → change_of makes time nonce old ≡ Some e → e.id ≡ old.id
  change-id old e h = ap (λ (d : ElementValue). d.id) (change-parts old e h).2
      ∙ ap (λ (s : Self). s.id) (effect-keeps stored shown command old)

  -- its version is one more, and its kind stays
  pub change-version : (e : ElementValue) (change : IsChangeOf stored shown command time nonce e)
      → e.version ≡ change.old.version + 1
  change-version e change =
      ap (λ (d : ElementValue). d.version) change.is
      ∙ ap (λ (s : Self). s.version + 1) (effect-keeps stored shown command change.old)

  pub change-kind : (e : ElementValue) (change : IsChangeOf stored shown command time nonce e)
      → change.old.kind ≡ e.kind
  change-kind e change =
      sym (ap (λ (d : ElementValue). d.kind) change.is
      ∙ ap (λ (s : Self). s.kind) (effect-keeps stored shown command change.old))

  pub change-seen : (e : ElementValue) (change : IsChangeOf stored shown command time nonce e)
      → unstamped change.old ≡ unstamped e → ⊥
  change-seen e change same =
      both_ways (differs change.old (makes change.old)) (differs-not change.old (makes change.old) (same
      ∙ ap unstamped change.is)) change.differ

  module _ (ordered : are_rising (ids_of stored) ≡ true) where
    pub given-cases : (e : ElementValue) → Contains given e → IsChangeOf stored shown command time nonce e
        ⊎ IsCreated stored shown command time nonce e
    given-cases e c =
        elim (created-cases (created shown command time nonce) changes e
        (subst (λ (es : List ElementValue). Contains es e) given-is c)) [
          | inl new ↦ inr (record {
            unknown = created-unknown stored shown time nonce command e none-existing new;
            is =
                new;
          })
          | inr change ↦
              let from = mapped-cases (change_of makes time nonce) stored e change in
              let facts = change-parts from.0 e from.2 in
              inl (record {
                old = from.0;
                found =
                    ap (element_of stored) (change-id from.0 e from.2) ∙ member None None stored from.0 ordered from.1;
                live = facts.0;
                differ = facts.1;
                is = facts.2;
              })
        ]

    changes-absent : (id : List ℕ) → element_of stored id ≡ None → element_of changes id ≡ None
    changes-absent id none =
        find-None (has_id id) changes (λ e c.
        let from = mapped-cases (change_of makes time nonce) stored e c in
        ap (bytes_eq id) (change-id from.0 e from.2) ∙ absent id stored from.0 none from.1)

    -- ---- the laws
    -- the ids of the given elements rise
    pub given-rise : are_rising (ids_of given) ≡ true
    given-rise =
        subst (λ (es : List ElementValue). are_rising (ids_of es) ≡ true) (sym given-is)
        (created-rises (created shown command time nonce) changes
        (mapped-rises (change_of makes time nonce) change-id None stored ordered))

    -- each is the one of its id
    pub given-found : (e : ElementValue) → Contains given e → element_of given e.id ≡ Some e
    given-found e c = member None None given e given-rise c

    -- a store takes each
    pub given-taken : (e : ElementValue) → Contains given e → is_taken stored e ≡ true
    given-taken e c = elim (given-cases e c) [
      | inl change ↦ ap (is_newer e) change.found ∙ newer e change.old (change-version e change)
      | inr new ↦ ap (is_newer e) new.unknown
    ]

    -- each is of the stored element's kind, and one version on
    pub given-kind : (e old : ElementValue) → Contains given e → element_of stored e.id ≡ Some old → (old.kind ≡ e.kind)
        × (e.version ≡ old.version + 1)
    given-kind e old c found = elim (given-cases e c) [
      | inl change ↦
          let same = same_Some change.old old (sym change.found ∙ found) in (
            ap (λ (d : ElementValue). d.kind) (sym same) ∙ change-kind e change,
            change-version e change
                ∙ ap (λ (d : ElementValue). d.version + 1) same,
          )
      | inr new ↦ absurd (none-some old (sym new.unknown ∙ found))
    ]

    -- each differs outside the stamp from the live stored one, or is new
    pub given-seen : (e : ElementValue) → Contains given e → ChangesStored stored e ⊎ IsNew stored e
    given-seen e c = elim (given-cases e c) [
      | inl change ↦ inl (subst (λ (o : Option ElementValue). IsSomeAnd o (λ (old : ElementValue). (is_live old ≡ true)
          × (unstamped old ≡ unstamped e → ⊥))) (sym change.found) (change.live, change-seen e change))
      | inr new ↦
          let fresh = created-fresh stored shown time nonce command e new.is in
          inr (record { unknown = new.unknown; live = fresh.0; version = fresh.1 })
    ]

    -- so with the stored element, or with itself as a deleted one, it is a pair that is changed
    pub given-changed : (e : ElementValue) → Contains given e → IsChanged (pair_with (element_of stored e.id) e)
    given-changed e c = elim (given-cases e c) [
      | inl change ↦ subst (λ (o : Option ElementValue). IsChanged (pair_with o e)) (sym change.found) (record {
        id = sym (ap (λ (d : ElementValue). d.id) change.is
            ∙ ap (λ (s : Self). s.id) (effect-keeps stored shown command change.old));
        kind = change-kind e change;
        differ = change-seen e change;
      })
      | inr new ↦ subst (λ (o : Option ElementValue). IsChanged (pair_with o e)) (sym new.unknown) (record {
        id = refl;
        kind = refl;
        differ = λ same. false≢true (ap (λ (d : ElementValue). not d.deleted) same
            ∙ (created-fresh stored shown time nonce command e new.is).0);
      })
    ]

    -- a live element that the command makes another one of is given so
    pub change-given : (old : ElementValue) → Contains stored old → is_live old ≡ true → differs old (makes old) ≡ true
        → Contains given (stamped time nonce (makes old))
    change-given old c live differ =
        let new = stamped time nonce (makes old) in
        subst (λ (es : List ElementValue). Contains es new) (sym given-is)
        (created-kept (created shown command time nonce) changes new
        (mapped-there (change_of makes time nonce) stored old new c
        (cond-true (is_changed makes old) (Some new) None (and_from (is_live old) (differs old (makes old)) live
        differ))))

    -- and a new element is given
    pub created-given : HaveDistinctIds (created shown command time nonce) → (e : ElementValue)
        → Contains (created shown command time nonce) e → element_of given e.id ≡ Some e
    created-given distinct e is =
        given-found e (subst (λ (es : List ElementValue). Contains es e) (sym given-is)
        (created-there (created shown command time nonce) changes e distinct
        (λ d c. changes-absent d.id (created-unknown stored shown time nonce command d none-existing c)) is))

    -- an element that is deleted, or that the command leaves as it is, isn't given
    pub not-given : (id : List ℕ) (old : ElementValue) → element_of stored id ≡ Some old
        → (is_live old ≡ true → differs old (makes old) ≡ true → ⊥) → element_of given id ≡ None
    not-given id old found same =
        elim (some-or-none (element_of given id)) [
          | inl none ↦ none
          | inr some ↦
              let at = find-Some (has_id id) given some.0 some.1 in
              let own = ap (element_of stored) (sym (same_id id some.0 at.1)) ∙ found in
              elim (given-cases some.0 at.0) [
                | inl change ↦ absurd
                    (let is = same_Some change.old old (sym change.found ∙ own) in
                    same (ap is_live (sym is) ∙ change.live) (ap (λ (d : ElementValue). differs d (makes d)) (sym is)
                    ∙ change.differ))
                | inr new ↦ absurd (none-some old (sym new.unknown ∙ own))
              ]
        ]

    -- an id that isn't stored and isn't the new element's isn't given
    pub not-created : (id : List ℕ) → element_of stored id ≡ None → created shown command time nonce ≡ []
        → element_of given id ≡ None
    not-created id none nothing =
        elim (some-or-none (element_of given id)) [
          | inl free ↦ free
          | inr some ↦
              let at = find-Some (has_id id) given some.0 some.1 in
              elim (given-cases some.0 at.0) [
                | inl change ↦ absurd (none-some change.old (sym none ∙ ap (element_of stored) (same_id id some.0 at.1)
                    ∙ change.found))
                | inr new ↦ absurd (let c = subst (λ (es : List ElementValue). Contains es some.0) nothing new.is in
                    omega (arith, c.1))
              ]
        ]

    -- What is stored once the given elements are: of a live element what the command makes of it, but for the stamp,
    -- and a deleted one stays.
    pub after-live : (id : List ℕ) (old : ElementValue) → element_of stored id ≡ Some old → is_live old ≡ true
        → (e : ElementValue) × (stored_after stored given id ≡ Some e) × (unstamped e ≡ unstamped (makes old))
    after-live id old found live =
        let at = find-Some (has_id id) stored old found in
        let keeps = effect-keeps stored shown command old in
        elim (cases_Bool (differs old (makes old))) [
          | inl differ ↦
              let new = stamped time nonce (makes old) in
              let own = ap (element_of given) (same_id id old at.1 ∙ sym (ap (λ (s : Self). s.id) keeps)) in (
                new,
                stored_after-given stored given id new (own ∙ given-found new (change-given old at.0 live differ)),
                refl,
              )
          | inr none ↦ (
            old,
            stored_after-kept stored given id
                (not-given id old found (λ _ differ. both_ways (differs old (makes old)) none differ)) ∙ found,
            same-where-not old (makes old) (sym (ap (λ (s : Self). s.id) keeps)) (sym (ap (λ (s : Self). s.kind) keeps))
                (sym (ap (λ (s : Self). s.file) keeps)) none,
          )
        ]

    pub after-dead : (id : List ℕ) (old : ElementValue) → element_of stored id ≡ Some old → is_live old ≡ false
        → stored_after stored given id ≡ Some old
    after-dead id old found dead =
        stored_after-kept stored given id (not-given id old found (λ live _. both_ways (is_live old) dead live)) ∙ found
