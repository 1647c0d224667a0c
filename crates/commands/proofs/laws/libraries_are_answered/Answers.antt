use Rattle.commands.proofs.ShelfExists.{shelf-answered}
use Rattle.commands.proofs.laws.libraries_are_answered.Goals as goal

pub returns : goal.returns
returns c = shelf-answered
