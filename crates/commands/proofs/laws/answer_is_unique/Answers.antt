use Rattle.commands.proofs.Unique.{answer-once}
use Rattle.commands.proofs.laws.answer_is_unique.Goals as goal

pub returns : goal.returns
returns c = answer-once
