-- What an effect changes, element by element.
use Rattle.std.proofs.Common.{◌≡◌, ◌≢◌, ℕ, Bool, true, false, ◌==◌, List, [], ◌∷◌, ◌++◌, append_assoc, Option, Some, None, Result, Ok, Err, IfErr, find, if◌then◌else◌, inl, inr, refl, sym, ap, ◌∙◌, subst}
use Rattle.std.specs.List.{cons_option, filter_map}
use Rattle.std.specs.Option.{option_map_or, unwrap_or}
use Rattle.board_base.specs.declared.stop.Stop.{Stop}
use Rattle.std.proofs.lemmas.Bool.{cases_Bool, eqb-true, eq-eqb}
use Rattle.std.proofs.lemmas.Option.{same_Some, none-some}
use Rattle.elem.specs.ElementValue.{ElementValue}
use Rattle.elem.specs.Facts.{greatest_whole}
use Rattle.elem.specs.Order.{unstamped}
use Rattle.elem.specs.Stamp.{stamped}
use Rattle.view.specs.Shown.{is_live}
use Rattle.effects.specs.declared.refusal.Refusal.{Refusal}
use Rattle.effects.specs.declared.effect.Effect.{Effect}
use Rattle.effects.specs.Changed.{OnFault, is_full, change_of, refusal_at}
use Rattle.effects.specs.inner.Concerning.{is_full_at}
use Rattle.effects.specs.declared.refusal.Refusal.TheVariants.{VersionFull}
use Rattle.elem_store.specs.Updates.{element_of}
use Rattle.effects.specs.Differing.{differs}
use Rattle.effects.specs.inner.Prepared.{made_by}
use Rattle.effects.proofs.DifferingLaws.{same-where-not, differs-not}
use Rattle.effects.proofs.FirstLaws.{OnFault-weaker}
use Rattle.effects.proofs.KeepingLaws.{Self, made_by-keeps}
use Rattle.effects.proofs.NamedLaws.{own-id}

-- what was made of an element, if it differs
abbrev pub told : ElementValue → ElementValue → Option ElementValue
told e made = if differs e made then Some made else None

pub told-none : (o : Option ElementValue) (e made : ElementValue) → ((x : ElementValue) → o ≡ Some x → ⊥)
    → unwrap_or o e ≡ made → None ≡ told e made
told-none None e made none is = subst (λ m. None ≡ told e m) is (rw (differs-not e e refl) refl)
told-none (Some x) e made none is = absurd (none x refl)

pub told-same : (o : Option ElementValue) (e new made : ElementValue) → o ≡ Some new → unwrap_or o e ≡ made
    → unstamped e ≡ unstamped new → None ≡ told e made
told-same o e new made some is same =
    let m : new ≡ made = sym (ap (λ p. unwrap_or p e) some) ∙ is in
    subst (λ d. None ≡ told e d) m (rw (differs-not e new same) refl)

pub told-other : (effect : Effect) (o : Option ElementValue) (e new : ElementValue) → o ≡ Some new
    → unwrap_or o e ≡ made_by effect e → (unstamped e ≡ unstamped new → ⊥) → Some new ≡ told e (made_by effect e)
told-other effect o e new some is other =
    let m : new ≡ made_by effect e = sym (ap (λ p. unwrap_or p e) some) ∙ is in
    let keeps = made_by-keeps effect e in
    elim (cases_Bool (differs e (made_by effect e))) [
      | inl t ↦ ap Some m ∙ rw t refl
      | inr f ↦ absurd (other
          (same-where-not e (made_by effect e) (sym (ap (λ (s : Self). s.id) keeps))
          (sym (ap (λ (s : Self). s.kind) keeps)) (sym (ap (λ (s : Self). s.file) keeps)) f
          ∙ ap unstamped (sym m)))
    ]

pub told-some : (e made new : ElementValue) → Some new ≡ told e made → (differs e made ≡ true) × (new ≡ made)
told-some e made new h = elim (cases_Bool (differs e made)) [
  | inl t ↦ (t, same_Some new made (rw t at h))
  | inr f ↦ absurd (none-some _ (sym (rw f at h)))
]

-- ---- one element that changes
module _ (effect : Effect) (e : ElementValue) (live : is_live e ≡ true) (differ : differs e (made_by effect e) ≡ true)
  where
    pub change_of-new : (time nonce : ℕ) (new result : ElementValue) → new ≡ made_by effect e
        → result ≡ stamped time nonce new → Some result ≡ change_of (made_by effect) time nonce e
    change_of-new time nonce new result is stamp = rw (live, differ) (ap Some (stamp ∙ ap (stamped time nonce) is))

    version : (new : ElementValue) → new ≡ made_by effect e → new.version ≡ e.version
    version new is = ap (λ (d : ElementValue). d.version) is ∙ ap (λ (s : Self). s.version) (made_by-keeps effect e)

    pub not-full : (new : ElementValue) → new ≡ made_by effect e → new.version ≢ greatest_whole
        → is_full (made_by effect) e ≡ false
    not-full new is other = elim (cases_Bool (e.version == greatest_whole)) [
      | inl t ↦ absurd (other (version new is ∙ eqb-true e.version greatest_whole t))
      | inr f ↦ rw (live, differ) f
    ]

    pub is-full : (new : ElementValue) (refusal : Refusal) → new ≡ made_by effect e → (new.version ≡ greatest_whole)
        × (refusal ≡ refusal_at new) → (is_full (made_by effect) e ≡ true) × (refusal ≡ refusal_at e)
    is-full new refusal is full = (
      rw (live, differ) (eq-eqb e.version greatest_whole (sym (version new is) ∙ full.0)),
      full.1 ∙ ap refusal_at is ∙ λ i. elim-id (made_by-keeps effect e i),
    )
      where
        elim-id : Self → Refusal
        elim-id s = refusal_at (record e { id = s.id })

-- the stored element of an id stands at the greatest version
pub full-at : {T : Type 0} (r : Result T (Stop Refusal)) (stored : List ElementValue) (makes : ElementValue
    → ElementValue) (id : List ℕ) (e : ElementValue) → element_of stored id ≡ Some e
    → IfErr r (λ stop. OnFault stop (λ refusal. (is_full makes e ≡ true) × (refusal ≡ refusal_at e)))
    → IfErr r (λ stop. OnFault stop (λ refusal. (is_full_at stored makes id ≡ true) × (refusal ≡ VersionFull id)))
full-at (Ok x) stored makes id e found h = tt
full-at (Err stop) stored makes id e found h =
    OnFault-weaker (λ refusal. (is_full makes e ≡ true) × (refusal ≡ refusal_at e))
    (λ refusal. (is_full_at stored makes id ≡ true) × (refusal ≡ VersionFull id)) stop
    (λ refusal p. (
      ap (λ (o : Option ElementValue). option_map_or (is_full makes) o false) found ∙ p.0,
      p.1
          ∙ ap VersionFull (sym (own-id stored id e found)),
    )) h

-- ---- the ids that are left, of which one is next
module _ (f : List ℕ → Option ElementValue) (p : List ℕ → Bool) (left rest : List (List ℕ)) (id : List ℕ) (next : left
    ≡ id ∷ rest) where
  pub walked-made : (changed all : List ElementValue) (new : Option ElementValue) → new ≡ f id
      → changed ++ filter_map f left ≡ all → (changed ++ cons_option new []) ++ filter_map f rest ≡ all
  walked-made changed all new is so_far =
      append_assoc changed (cons_option new []) (filter_map f rest)
      ∙ ap (λ es. changed ++ es) (first new (filter_map f rest) ∙ ap (λ o. cons_option o (filter_map f rest)) is)
      ∙ ap (λ ids. changed ++ filter_map f ids) (sym next)
      ∙ so_far
    where
      first : (o : Option ElementValue) (es : List ElementValue) → cons_option o [] ++ es ≡ cons_option o es
      first None es = refl
      first (Some e) es = refl

  pub walked-free : (found : Option (List ℕ)) → p id ≡ false → find p left ≡ found → find p rest ≡ found
  walked-free found none so_far = sym (ap (find p) next ∙ rw none refl) ∙ so_far

  pub walked-full : (found : Option (List ℕ)) → p id ≡ true → find p left ≡ found → found ≡ Some id
  walked-full found full so_far = sym so_far ∙ ap (find p) next ∙ rw full refl
