use Rattle.std.proofs.Common.{refl, sym, ◌∙◌}
use Rattle.board_commands.specs.declared.command.Command.TheVariants as commands
use Rattle.effects.specs.Copying.{settled_for, shown_among}
use Rattle.effect_laws.proofs.Placed.{own-id, place-other}
use Rattle.effect_laws.proofs.Stamps.{key-given, key-stays}
use Rattle.effect_laws.proofs.laws.settled_keys_are_stamped.Goals as goal

pub returns-clause-beside_created : goal.returns-clause-beside_created
returns-clause-beside_created c stored shown given element spot time nonce ordered told id old found live =
    let create = commands.Create element spot in
    key-given stored shown create time nonce given told ordered id old found shown refl
    (c.effect_is_stored.ensures.live stored shown given create time nonce ordered told id old found live)

pub returns-clause-beside_placed : goal.returns-clause-beside_placed
returns-clause-beside_placed c stored shown given id spot time nonce ordered told other old found live apart =
    let place = commands.Place id spot in
    key-given stored shown place time nonce given told ordered other old found shown
    (place-other stored shown id spot old (λ same. apart (own-id stored other old found ∙ sym same)))
    (c.effect_is_stored.ensures.live stored shown given place time nonce ordered told other old found live)

pub returns-clause-beside_duplicated : goal.returns-clause-beside_duplicated
returns-clause-beside_duplicated c stored shown given ids prefix spot time nonce ordered told id old found live =
    let duplicate = commands.Duplicate ids prefix spot in
    key-given stored shown duplicate time nonce given told ordered id old found
    (settled_for (shown_among ids shown) shown) refl
    (c.effect_is_stored.ensures.live stored shown given duplicate time nonce ordered told id old found live)

pub returns-clause-beside_pasted : goal.returns-clause-beside_pasted
returns-clause-beside_pasted c stored shown given elements prefix spot time nonce ordered told id old found live =
    let paste = commands.Paste elements prefix spot in
    key-given stored shown paste time nonce given told ordered id old found (settled_for elements shown) refl
    (c.effect_is_stored.ensures.live stored shown given paste time nonce ordered told id old found live)

pub returns-clause-kept_beside_created : goal.returns-clause-kept_beside_created
returns-clause-kept_beside_created c stored shown given element spot time nonce ordered told id old found =
    key-stays stored shown (commands.Create element spot) time nonce given told ordered id old found shown refl

pub returns-clause-kept_beside_placed : goal.returns-clause-kept_beside_placed
returns-clause-kept_beside_placed c stored shown given id spot time nonce ordered told other old found apart =
    key-stays stored shown (commands.Place id spot) time nonce given told ordered other old found shown
    (place-other stored shown id spot old (λ same. apart (own-id stored other old found ∙ sym same)))
