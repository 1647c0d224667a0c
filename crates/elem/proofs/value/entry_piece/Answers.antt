use Rattle.std.proofs.Common.{refl}
use Rattle.json_text.specs.Characters.{quote}
use Rattle.elem.specs.Texts.{role_name}
use Rattle.elem.proofs.Leaving.{entry_left}
use Rattle.elem.proofs.value.entry_piece.Goals as goal

pub returns : goal.returns
returns c =
    let text = entry_left c.args.entry.now.id (quote (role_name c.args.entry.now.role)) in
    rw (← text) (rw (
      c.member.ensures,
      c.entry_mark.ensures,
      c.of-id.ensures,
      c.as_bytes.ensures.value,
      c.role_end.ensures,
    ) refl)
