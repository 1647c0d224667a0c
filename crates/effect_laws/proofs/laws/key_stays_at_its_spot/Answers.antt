use Rattle.std.proofs.Common.{◌≡◌, ℕ, List, Option, ap, ◌∙◌}
use Rattle.elem.specs.ElementValue.{ElementValue}
use Rattle.elem.specs.Order.{unstamped}
use Rattle.effects.specs.Effects.{effect}
use Rattle.effects.specs.Given.{stored_after}
use Rattle.board_commands.specs.declared.command.Command.TheVariants as commands
use Rattle.effect_laws.proofs.Placed.{own-id, place-same, placed-live}
use Rattle.effect_laws.proofs.Stamps.{some-weaker, stays}
use Rattle.effect_laws.proofs.laws.key_stays_at_its_spot.Goals as goal

pub returns-clause-key : goal.returns-clause-key
returns-clause-key c stored shown given id spot time nonce ordered told seen at within =
    let place = commands.Place id spot in
    let old = placed-live stored shown id spot time nonce given told in
    some-weaker (λ (e : ElementValue). unstamped e ≡ unstamped (effect stored shown place old.0))
    (λ (e : ElementValue). e.index ≡ seen.index) (stored_after stored given id)
    (λ e same. ap (λ (d : ElementValue). d.index)
    (same ∙ ap unstamped (place-same stored shown id spot seen at within old.0 (own-id stored id old.0 old.1))))
    (c.effect_is_stored.ensures.live stored shown given place time nonce ordered told id old.0 old.1 old.2)

pub returns-clause-kept : goal.returns-clause-kept
returns-clause-kept c stored shown given id spot time nonce ordered told old seen found at within same =
    stays stored shown (commands.Place id spot) time nonce given told ordered id old found
    (ap unstamped (place-same stored shown id spot seen at within old (own-id stored id old found))
    ∙ ap (λ (key : Option (List ℕ)). unstamped (record old { index = key })) same)
