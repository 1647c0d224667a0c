use Rattle.commands.proofs.Joining.{none-joined}
use Rattle.commands.proofs.heads.Heads.new.Goals as goal

pub returns : goal.returns
returns c = none-joined _ _ c.new.ensures c.new-2.ensures
