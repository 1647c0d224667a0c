use Rattle.commands.proofs.Readers.{nothing-said}
use Rattle.commands.proofs.taking.Gathered.new.Goals as goal

pub returns : goal.returns
returns c = nothing-said c.new.result c.new-2.result.elements c.new.ensures c.new-2.ensures
