-- What a command comes to, by what was found of it.
use Rattle.std.proofs.Common.{◌≡◌, ℕ, Bool, true, ◌&&◌, ◌==◌, List, [], ◌∷◌, Option, Some, None, Result, Ok, Err, Contains, find, map, length, bytes_eq, if◌then◌else◌, inl, inr, refl, sym, ap, ◌∙◌, subst}
use Rattle.std.specs.List.{IsDistinct, cons_option, filter_map}
use Rattle.std.specs.Option.{option_map, option_or}
use Rattle.std.proofs.lemmas.Bool.{cases_Bool}
use Rattle.std.proofs.lemmas.Option.{cond_some, same_Some}
use Rattle.frac_keys.specs.Rising.{are_rising}
use Rattle.elem.specs.ElementValue.{ElementValue}
use Rattle.elem.specs.Facts.{greatest_whole}
use Rattle.elem.specs.Order.{has_id, HaveDistinctIds}
use Rattle.elem.specs.Stamp.{stamped}
use Rattle.elem_store.specs.Updates.{ids_of, is_among}
use Rattle.elem_store.proofs.CallerLemmas.{Contains-cons, Contains-head, find-None}
use Rattle.index_repair.specs.Keyed.{keyed}
use Rattle.index_repair.proofs.CallerLemmas.{keyed-distinct}
use Rattle.copies.specs.Copies.{copies_of}
use Rattle.copies.proofs.CallerLemmas.{copies-distinct}
use Rattle.board_commands.specs.declared.command.Command.{Command}
use Rattle.board_commands.specs.declared.command.Command.TheVariants as commands
use Rattle.board_commands.specs.declared.command.Spot.{Spot}
use Rattle.board_commands.specs.Limits.{IsWithinLimits}
use Rattle.links.proofs.CallerLemmas.{distinct-among}
use Rattle.effects.specs.declared.refusal.Refusal.{Refusal}
use Rattle.effects.specs.declared.effect.Effect.{Effect}
use Rattle.effects.specs.Changed.{is_changed, is_full, change_of, changes_of, created, created_at, with_created, outcome, outcome_from, outcome_unless, refusal_at}
use Rattle.effects.specs.Copying.{as_new, copies_at, shown_among}
use Rattle.effects.specs.Differing.{differs}
use Rattle.effects.specs.Effects.{effect}
use Rattle.view.specs.Shown.{is_live}
use Rattle.effects.specs.Placing.{keys_at}
use Rattle.effects.specs.inner.Prepared.{made_by, Prepares}
use Rattle.effects.specs.Refusals.{existing, refusal_of}
use Rattle.effects.proofs.CreatedLaws.{AreApart, absent, created-unknown, distinct-one}
use Rattle.effects.proofs.OutcomeLaws.{mapped-cases, mapped-rises}

-- what agrees on each element agrees on all
find-same : (p q : ElementValue → Bool) (es : List ElementValue) → ((e : ElementValue) → Contains es e → p e ≡ q e)
    → find p es ≡ find q es
find-same p q [] same = refl
find-same p q (e ∷ es) same =
    ap (λ b. if b then Some e else find p es) (same e (Contains-head e es))
    ∙ ap (λ o. if q e then Some e else o) (find-same p q es (λ d c. same d (Contains-cons e es d c)))

mapped-same : (f g : ElementValue → Option ElementValue) (es : List ElementValue)
    → ((e : ElementValue) → Contains es e → f e ≡ g e) → filter_map f es ≡ filter_map g es
mapped-same f g [] same = refl
mapped-same f g (e ∷ es) same =
    ap (λ o. cons_option o (filter_map f es)) (same e (Contains-head e es))
    ∙ ap (cons_option (g e)) (mapped-same f g es (λ d c. same d (Contains-cons e es d c)))

module _ (stored shown : List ElementValue) (command : Command) (time nonce : ℕ) where
  pub outcome-refused : (refusal : Refusal) → refusal_of stored shown command ≡ Some refusal
      → outcome stored shown command time nonce ≡ Err refusal
  outcome-refused refusal is = ap (λ o. outcome_unless o stored shown command time nonce) is

  abbrev found : (ElementValue → ElementValue) → Result (List ElementValue) Refusal
  found makes =
      outcome_from (find (is_full makes) stored) (created shown command time nonce) (changes_of makes time nonce stored)

  open-outcome : (prepared : Effect) → refusal_of stored shown command ≡ None → Prepares stored shown command prepared
      → outcome stored shown command time nonce ≡ found (made_by prepared)
  open-outcome prepared none prepares =
      ap (λ o. outcome_unless o stored shown command time nonce) none
      ∙ ap (λ o. outcome_from o (created shown command time nonce)
      (changes_of (effect stored shown command) time nonce stored))
      (find-same (is_full (effect stored shown command)) (is_full (made_by prepared)) stored (λ e c. same-full e c))
      ∙ ap (outcome_from (find (is_full (made_by prepared)) stored) (created shown command time nonce))
      (mapped-same (change_of (effect stored shown command) time nonce) (change_of (made_by prepared) time nonce)
      stored (λ e c. same-change e c))
    where
      same-full : (e : ElementValue) → Contains stored e → is_full (effect stored shown command) e
          ≡ is_full (made_by prepared) e
      same-full e c = elim (cases_Bool (is_live e)) [
        | inl live ↦ ap (λ (d : ElementValue). (is_live e && differs e d) && e.version == greatest_whole)
            (sym (prepares.exact e c live))
        | inr dead ↦ rw dead refl
      ]

      same-change : (e : ElementValue) → Contains stored e → change_of (effect stored shown command) time nonce e
          ≡ change_of (made_by prepared) time nonce e
      same-change e c = elim (cases_Bool (is_live e)) [
        | inl live ↦ ap (λ (d : ElementValue). if is_live e && differs e d then Some (stamped time nonce d) else None)
            (sym (prepares.exact e c live))
        | inr dead ↦ rw dead refl
      ]

  full-from : (o : Option ElementValue) (new changes : List ElementValue) (refusal : Refusal)
      → option_map refusal_at o ≡ Some refusal → outcome_from o new changes ≡ Err refusal
  full-from None new changes refusal h =
      absurd (subst (λ (o : Option Refusal). elim o as (λ _. Type 0) [ None ↦ Unit {0} | Some _ ↦ ⊥ ]) h tt)
  full-from (Some e) new changes refusal h = ap Err (same_Some (refusal_at e) refusal h)

  pub outcome-full : (prepared : Effect) (refusal : Refusal) → refusal_of stored shown command ≡ None
      → Prepares stored shown command prepared → option_map refusal_at (find (is_full (made_by prepared)) stored)
      ≡ Some refusal
      → outcome stored shown command time nonce ≡ Err refusal
  outcome-full prepared refusal none prepares full =
      open-outcome prepared none prepares
      ∙ full-from _ (created shown command time nonce) (changes_of (made_by prepared) time nonce stored) refusal
      full

  pub outcome-ok : (prepared : Effect) (new changed all : List ElementValue) → refusal_of stored shown command ≡ None
      → Prepares stored shown command prepared → find (is_full (made_by prepared)) stored ≡ None
      → changed ≡ changes_of (made_by prepared) time nonce stored → new ≡ created shown command time nonce
      → all ≡ with_created new changed → outcome stored shown command time nonce ≡ Ok all
  outcome-ok prepared new changed all none prepares free made created' is =
      open-outcome prepared none prepares
      ∙ ap (λ o. outcome_from o (created shown command time nonce) (changes_of (made_by prepared) time nonce stored))
      free
      ∙ ap Ok (sym (is ∙ ap (λ n. with_created n changed) created'
      ∙ ap (with_created (created shown command time nonce)) made))

-- no part of what is refused refuses
pub guarded-none : (a b c d : Option Refusal) → option_or a (option_or b (option_or c d)) ≡ None → d ≡ None
guarded-none None None None d h = h
guarded-none None None (Some c) d h =
    absurd (subst (λ (o : Option Refusal). elim o as (λ _. Type 0) [ None ↦ ⊥ | Some _ ↦ Unit {0} ]) h tt)
guarded-none None (Some b) c d h =
    absurd (subst (λ (o : Option Refusal). elim o as (λ _. Type 0) [ None ↦ ⊥ | Some _ ↦ Unit {0} ]) h tt)
guarded-none (Some a) b c d h =
    absurd (subst (λ (o : Option Refusal). elim o as (λ _. Type 0) [ None ↦ ⊥ | Some _ ↦ Unit {0} ]) h tt)

-- ---- the new elements of a command beside the changed ones
module _ (stored shown : List ElementValue) (command : Command) (time nonce : ℕ) (makes : ElementValue
    → ElementValue) (keeps : (e : ElementValue) → (makes e).id ≡ e.id) where
  change-id : (old e : ElementValue) → change_of makes time nonce old ≡ Some e → e.id ≡ old.id
  change-id old e h =
      let one = cond_some (is_changed makes old) (stamped time nonce (makes old)) e h in
      ap (λ (d : ElementValue). d.id) (sym one.1) ∙ keeps old

  pub changes-rise : are_rising (ids_of stored) ≡ true → are_rising (ids_of (changes_of makes time nonce stored)) ≡ true
  changes-rise rise = mapped-rises (change_of makes time nonce) change-id None stored rise

  pub new-apart : existing stored command ≡ None
      → AreApart (created shown command time nonce) (changes_of makes time nonce stored)
  new-apart free d c =
      find-None (has_id d.id) (changes_of makes time nonce stored) (λ e f.
      let from = mapped-cases (change_of makes time nonce) stored e f in
      ap (bytes_eq d.id) (change-id from.0 e from.2)
      ∙ absent d.id stored from.0 (created-unknown stored shown time nonce command d free c) from.1)

-- ---- the ids of new elements are distinct

new-ids : (time nonce : ℕ) (es : List ElementValue) → ids_of (map (as_new time nonce) es) ≡ ids_of es
new-ids time nonce [] = refl
new-ids time nonce (e ∷ es) = ap (λ ids. e.id ∷ ids) (new-ids time nonce es)

pub copies-at-distinct : (shown list : List ElementValue) (prefix : List ℕ) (spot : Spot) (time nonce : ℕ)
    → HaveDistinctIds list → HaveDistinctIds (copies_at shown list prefix spot time nonce)
copies-at-distinct shown list prefix spot time nonce distinct =
    let copies = copies_of list prefix in
    let keys = keys_at shown spot (length copies) in
    subst (IsDistinct bytes_eq) (sym (new-ids time nonce (keyed copies keys)))
    (keyed-distinct copies keys (copies-distinct list prefix distinct))

pub duplicates-distinct : (shown : List ElementValue) (ids : List (List ℕ)) (prefix : List ℕ) (spot : Spot)
    (time nonce : ℕ) → HaveDistinctIds shown
    → HaveDistinctIds (copies_at shown (shown_among ids shown) prefix spot time nonce)
duplicates-distinct shown ids prefix spot time nonce distinct =
    copies-at-distinct shown (shown_among ids shown) prefix spot time nonce
    (distinct-among (λ (e : ElementValue). is_among ids e.id) shown distinct)

pub created-distinct : (shown : List ElementValue) (command : Command) (time nonce : ℕ) → IsWithinLimits command
    → HaveDistinctIds shown → HaveDistinctIds (created shown command time nonce)
unfolding IsDistinct
created-distinct shown (commands.Create element spot) time nonce limits distinct =
    distinct-one (created_at shown element spot time nonce)
created-distinct shown (commands.Duplicate ids prefix spot) time nonce limits distinct =
    duplicates-distinct shown ids prefix spot time nonce distinct
created-distinct shown (commands.Paste elements prefix spot) time nonce limits distinct =
    copies-at-distinct shown elements prefix spot time nonce limits
created-distinct shown command time nonce limits distinct = tt
