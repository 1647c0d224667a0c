-- What is placed is live, and keeps the key that lies within the gap.
use Rattle.std.proofs.Common.{◌≡◌, ◌≢◌, ℕ, true, false, List, Option, Some, None, Result, Ok, Err, bytes_eq, inl, inr, refl, sym, ap, ◌∙◌, subst}
use Rattle.std.specs.Option.{option_and_then, option_map_or}
use Rattle.std.proofs.lemmas.Bool.{cases_Bool, cond-true, cond-false, false≢true}
use Rattle.json_text.proofs.CallerLemmas.{bytes_eq-apart, bytes_eq-same}
use Rattle.frac_keys.specs.Between.{key_between}
use Rattle.elem.specs.ElementValue.{ElementValue}
use Rattle.elem.specs.Order.{has_id}
use Rattle.elem_store.specs.Updates.{element_of}
use Rattle.elem_store.proofs.CallerLemmas.{find-Some, same_id}
use Rattle.view.specs.Shown.{is_live}
use Rattle.board_commands.specs.declared.command.Command.TheVariants as commands
use Rattle.board_commands.specs.declared.command.Spot.{Spot}
use Rattle.effects.specs.declared.refusal.Refusal.{Refusal}
use Rattle.effects.specs.Changed.{outcome}
use Rattle.effects.specs.Effects.{effect}
use Rattle.effects.specs.Placing.{gap_of, key_at, key_in, lies_within, with_view_key}
use Rattle.effects.specs.Refusals.{is_live_id}

pub own-id : (elements : List ElementValue) (id : List ℕ) (e : ElementValue) → element_of elements id ≡ Some e
    → id ≡ e.id
own-id elements id e found = same_id id e (find-Some (has_id id) elements e found).1

err-ok : (refusal : Refusal) (given : List ElementValue)
    → ◌≡◌ {A = Result (List ElementValue) Refusal} (Err refusal) (Ok given) → ⊥
err-ok refusal given h = cc

module _ (stored shown : List ElementValue) (id : List ℕ) (spot : Spot) where
  live-old : is_live_id stored id ≡ true → (old : ElementValue) × (element_of stored id ≡ Some old)
      × (is_live old ≡ true)
  live-old h = by (element_of stored id) refl
    where
      by : (o : Option ElementValue) → element_of stored id ≡ o → (old : ElementValue)
          × (element_of stored id ≡ Some old) × (is_live old ≡ true)
      by None none = absurd (false≢true
          (sym (ap (λ (o : Option ElementValue). option_map_or is_live o false) none) ∙ h))
      by (Some old) found = (
        old,
        found,
        sym (ap (λ (o : Option ElementValue). option_map_or is_live o false) found)
            ∙ h,
      )

  pub placed-live : (time nonce : ℕ) (given : List ElementValue)
      → outcome stored shown (commands.Place id spot) time nonce ≡ Ok given → (old : ElementValue)
      × (element_of stored id ≡ Some old) × (is_live old ≡ true)
  placed-live time nonce given told = live-old (elim (cases_Bool (is_live_id stored id)) [
    | inl live ↦ live
    | inr dead ↦ absurd (err-ok _ given (rw dead at told))
  ])

  -- beside it keys settle
  pub place-other : (e : ElementValue) → id ≢ e.id
      → effect stored shown (commands.Place id spot) e ≡ with_view_key shown e
  place-other e other =
      cond-false (bytes_eq id e.id)
      (record (with_view_key shown e) { index = key_at shown spot (Some id) (key_in shown id) }) (with_view_key shown e)
      (bytes_eq-apart id e.id other)

  module _ (seen : ElementValue) (at : element_of shown id ≡ Some seen)
      (within : lies_within (gap_of shown spot (Some id)) seen.index ≡ true) where
    same-key : key_at shown spot (Some id) (key_in shown id) ≡ seen.index
    same-key =
        let gap = gap_of shown spot (Some id) in
        ap (λ (o : Option ElementValue). key_at shown spot (Some id) (option_and_then (λ (e : ElementValue). e.index) o))
        at
        ∙ cond-true (lies_within gap seen.index) seen.index (Some (key_between gap.low gap.high)) within

    pub place-same : (e : ElementValue) → id ≡ e.id
        → effect stored shown (commands.Place id spot) e ≡ record e { index = seen.index }
    place-same e own =
        cond-true (bytes_eq id e.id)
        (record (with_view_key shown e) { index = key_at shown spot (Some id) (key_in shown id) })
        (with_view_key shown e) (subst (λ i. bytes_eq id i ≡ true) own (bytes_eq-same id))
        ∙ ap (λ (key : Option (List ℕ)). record e { index = key }) same-key
