-- Ids that are stored under a prefix, one after the other.
use Rattle.std.proofs.Common.{◌≡◌, ℕ, ◌+◌, ◌<◌, true, false, List, [], ◌∷◌, ◌++◌, Some, None, is_some, take, get_or, length, refl, sym, ap, ◌∙◌}
use Rattle.board_base.specs.declared.stop.Stop.{Stop}
use Rattle.elem.specs.ElementValue.{ElementValue}
use Rattle.elem_store.specs.Updates.{element_of}
use Rattle.effects.specs.declared.refusal.Refusal.{Refusal}
use Rattle.effects.specs.declared.refusal.Refusal.TheVariants.{Exists}
use Rattle.effects.specs.Changed.{OnFault}
use Rattle.effects.specs.Refusals.{first_stored}
use Rattle.effects.proofs.FirstLaws.{OnFault-weaker, first-found, first-more}

module _ (stored : List ElementValue) (prefix : List ℕ) (ids : List (List ℕ)) (i : ℕ) (id copy : List ℕ) where
  one-free : copy ≡ prefix ++ id → is_some (element_of stored copy) ≡ false
      → first_stored stored prefix (id ∷ []) ≡ None
  one-free is free = rw (sym (ap (λ x. is_some (element_of stored x)) is) ∙ free) refl

  one-stored : copy ≡ prefix ++ id → is_some (element_of stored copy) ≡ true
      → first_stored stored prefix (id ∷ []) ≡ Some (Exists copy)
  one-stored is there =
      rw (sym (ap (λ x. is_some (element_of stored x)) is) ∙ there) (ap (λ x. Some (Exists x)) (sym is))

  -- none so far, and not the next one
  pub stored-more : i < length ids → id ≡ get_or ids i id → copy ≡ prefix ++ id
      → first_stored stored prefix (take i ids) ≡ None → is_some (element_of stored copy) ≡ false
      → first_stored stored prefix (take (i + 1) ids) ≡ None
  stored-more within at is none free =
      first-more (λ id. is_some (element_of stored (prefix ++ id))) (λ id. Exists (prefix ++ id)) ids i id within at
      none (one-free is free)

  -- none so far, and the next one
  pub stored-found : (stop : Stop Refusal) → i < length ids → id ≡ get_or ids i id → copy ≡ prefix ++ id
      → first_stored stored prefix (take i ids) ≡ None
      → OnFault stop (λ refusal. (is_some (element_of stored copy) ≡ true) × (refusal ≡ Exists copy))
      → OnFault stop (λ refusal. first_stored stored prefix ids ≡ Some refusal)
  stored-found stop within at is none told =
      OnFault-weaker (λ refusal. (is_some (element_of stored copy) ≡ true)
      × (refusal ≡ Exists copy)) (λ refusal. first_stored stored prefix ids ≡ Some refusal) stop
      (λ refusal h. first-found (λ id. is_some (element_of stored (prefix ++ id))) (λ id. Exists (prefix ++ id)) ids i
      id refusal within at none (one-stored is h.0 ∙ ap Some (sym h.1))) told
