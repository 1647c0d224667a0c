use Rattle.std.proofs.Common.{false, bytes_eq, refl}
use Rattle.std.proofs.lemmas.Bool.{or_from}
use Rattle.json_text.proofs.CallerLemmas.{bytes_eq-apart}
use Rattle.board_commands.specs.declared.command.Command.TheVariants as commands
use Rattle.effect_laws.proofs.Stamps.{nothing-new}
use Rattle.effect_laws.proofs.laws.nothing_else_is_new.Goals as goal

pub returns-clause-each : goal.returns-clause-each
returns-clause-each c =
    λ stored shown given command time nonce ordered told. nothing-new stored shown command time nonce given told ordered

pub returns-clause-beside_created : goal.returns-clause-beside_created
returns-clause-beside_created c stored shown given element spot time nonce ordered told id free apart =
    nothing-new stored shown (commands.Create element spot) time nonce given told ordered id free
    (or_from (bytes_eq id element.id) false (bytes_eq-apart id element.id apart) refl)
