use Rattle.std.proofs.Common.{◌≡◌}
use Rattle.elem.specs.ElementValue.{ElementValue}
use Rattle.elem.specs.Order.{unstamped}
use Rattle.effects.specs.Effects.{effect}
use Rattle.effects.specs.Given.{stored_after}
use Rattle.effects.proofs.NamedLaws.{at-some}
use Rattle.effects.proofs.OutcomeLaws.{after-live, after-dead}
use Rattle.effects.proofs.laws.effect_is_stored.Goals as goal

pub returns-clause-live : goal.returns-clause-live
returns-clause-live c = λ stored shown given command time nonce ordered told id old found live.
    let new = after-live stored shown command time nonce given told ordered id old found live in
    at-some (λ (e : ElementValue). unstamped e ≡ unstamped (effect stored shown command old))
    (stored_after stored given id) new.0 new.1 new.2

pub returns-clause-dead : goal.returns-clause-dead
returns-clause-dead c =
    λ stored shown given command time nonce ordered told. after-dead stored shown command time nonce given told ordered
