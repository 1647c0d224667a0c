use Rattle.std.proofs.Common.{◌≡◌, ℕ, false, Option, Some, None, MatchOption, List, [], ◌∷◌, refl, sym, ap, ◌∙◌}
use Rattle.frac_keys.specs.Keys.{bytes_less}
use Rattle.elem.proofs.order.is_less.Goals as goal

-- nothing was left where no byte was taken
was_empty : (taken : Option ℕ) (old new : List ℕ)
    → MatchOption taken ((old ≡ []) × (new ≡ [])) (λ byte. old ≡ byte ∷ new) → ((byte : ℕ) → taken ≡ Some byte → ⊥)
    → old ≡ []
was_empty None old new is none = is.0
was_empty (Some byte) old new is none = absurd (none byte refl)

none_less : (bytes : List ℕ) → bytes_less bytes [] ≡ false
none_less [] = refl
none_less (byte ∷ bytes) = refl

pub returns : goal.returns
returns c =
    let empty = was_empty c.next.result c.loop-other.others c.next.new.self c.next.ensures c.in_default.not-Some in
    sym (none_less c.loop-other.bytes) ∙ ap (bytes_less c.loop-other.bytes) (sym empty) ∙ c.loop-other.invariant
