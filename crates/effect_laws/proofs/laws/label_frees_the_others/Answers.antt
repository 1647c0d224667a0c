use Rattle.std.proofs.Common.{◌≡◌, None, ap, sym, ◌∙◌}
use Rattle.elem.specs.ElementValue.{ElementValue}
use Rattle.elem.specs.Order.{unstamped}
use Rattle.board_commands.specs.declared.command.Command.TheVariants as commands
use Rattle.effects.specs.Effects.{effect}
use Rattle.effects.specs.Given.{stored_after}
use Rattle.effects.specs.Linking.{old_container}
use Rattle.effect_laws.proofs.Freed.{labelled-freed}
use Rattle.effect_laws.proofs.Placed.{own-id}
use Rattle.effect_laws.proofs.Stamps.{some-weaker}
use Rattle.effect_laws.proofs.laws.label_frees_the_others.Goals as goal

pub returns : goal.returns
returns c stored shown given container text time nonce ordered told id old found live other names =
    let label = commands.Label container text in
    some-weaker (λ (e : ElementValue). unstamped e ≡ unstamped (effect stored shown label old))
    (λ (e : ElementValue). e.container ≡ None) (stored_after stored given id)
    (λ e same. ap (λ (d : ElementValue). d.container) same
    ∙ labelled-freed text container (old_container stored text) old
    (λ same. other (own-id stored id old found ∙ sym same)) names)
    (c.effect_is_stored.ensures.live stored shown given label time nonce ordered told id old found live)
