use Rattle.elem.proofs.TellingLaws.{known-name}
use Rattle.elem.proofs.telling.tell_kind.Goals as goal

pub returns-in_default : goal.returns-in_default
returns-in_default c = known-name c.args.kind.now (λ name is. absurd (c.in_default.not-Other name is))
