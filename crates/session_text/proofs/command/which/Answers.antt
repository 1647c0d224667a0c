use Rattle.std.proofs.Common.{codes, refl, arith}
use Rattle.json_text.specs.Characters.{quote}
use Rattle.json_text.specs.Members.{pairs}
use Rattle.scene_json.specs.Named.{value_at}
use Rattle.session_text.specs.Commands.{asked_text}
use Rattle.session_text.proofs.Words.{all_asked, asked-told, none-told}
use Rattle.session_text.proofs.command.which.Goals as goal

pub returns-else-has_value-14 : goal.returns-else-has_value-14
unfolding quote all_asked
returns-else-has_value-14 c =
    let found = value_at (codes "name") (pairs c.args.members.now) in
    record { read = (none-told asked_text all_asked asked-told found (grind arith), refl) }
