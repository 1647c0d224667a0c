use Rattle.std.proofs.Common.{codes, refl, arith}
use Rattle.json_text.specs.Characters.{quote}
use Rattle.json_text.specs.Members.{pairs}
use Rattle.scene_json.specs.Named.{value_at}
use Rattle.session_text.specs.Lines.{line_name_text}
use Rattle.session_text.proofs.Words.{all_line_names, line_names-told, none-told}
use Rattle.session_text.proofs.lines.which.Goals as goal

pub returns-else-has_value-12 : goal.returns-else-has_value-12
unfolding quote all_line_names
returns-else-has_value-12 c =
    let found = value_at (codes "do") (pairs c.args.members.now) in
    record { read = (none-told line_name_text all_line_names line_names-told found (grind arith), refl) }
