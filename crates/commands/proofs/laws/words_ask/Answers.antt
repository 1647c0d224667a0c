use Rattle.commands.proofs.Asking.{words-ask}
use Rattle.commands.proofs.laws.words_ask.Goals as goal

pub returns : goal.returns
returns c = words-ask
