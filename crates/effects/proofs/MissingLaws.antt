-- The first missing id of two lists is that of the one, or else of the other.
use Rattle.std.proofs.Common.{◌≡◌, ℕ, List, not, ap, ◌∙◌, Some, None, ◌++◌}
use Rattle.std.specs.Option.{option_or}
use Rattle.board_base.specs.declared.stop.Stop.{Stop}
use Rattle.elem.specs.ElementValue.{ElementValue}
use Rattle.effects.specs.declared.refusal.Refusal.{Refusal}
use Rattle.effects.specs.declared.refusal.Refusal.TheVariants.{NoElement}
use Rattle.effects.specs.Changed.{OnFault}
use Rattle.effects.specs.Refusals.{first_missing, is_live_id}
use Rattle.effects.proofs.FirstLaws.{OnFault-weaker, first-append}

joined : (stored : List ElementValue) (ids others : List (List ℕ))
    → first_missing stored (ids ++ others) ≡ option_or (first_missing stored ids) (first_missing stored others)
joined stored ids others = first-append (λ id. not (is_live_id stored id)) NoElement ids others

pub earlier : (stored : List ElementValue) (ids others : List (List ℕ)) (stop : Stop Refusal)
    → OnFault stop (λ refusal. first_missing stored ids ≡ Some refusal)
    → OnFault stop (λ refusal. first_missing stored (ids ++ others) ≡ Some refusal)
earlier stored ids others stop h =
    OnFault-weaker (λ refusal. first_missing stored ids ≡ Some refusal) (λ refusal. first_missing stored (ids ++ others)
    ≡ Some refusal) stop
    (λ refusal is. joined stored ids others ∙ ap (λ o. option_or o (first_missing stored others)) is) h

pub later : (stored : List ElementValue) (ids others : List (List ℕ)) → first_missing stored ids ≡ None
    → first_missing stored (ids ++ others) ≡ first_missing stored others
later stored ids others h = joined stored ids others ∙ ap (λ o. option_or o (first_missing stored others)) h
