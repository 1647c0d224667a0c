use Rattle.std.proofs.Common.{codes, refl, arith}
use Rattle.json_text.specs.Characters.{quote}
use Rattle.json_text.specs.Members.{pairs}
use Rattle.scene_json.specs.Named.{value_at}
use Rattle.session_text.specs.Events.{happening_text}
use Rattle.session_text.proofs.Words.{all_happenings, happenings-told, none-told}
use Rattle.session_text.proofs.happening.which.Goals as goal

pub returns-else-has_value-7 : goal.returns-else-has_value-7
unfolding quote all_happenings
returns-else-has_value-7 c =
    let found = value_at (codes "do") (pairs c.args.members.now) in
    record { read = (none-told happening_text all_happenings happenings-told found (grind arith), refl) }
