use Rattle.line_replica.proofs.Exists.{answer-exists}
use Rattle.line_replica.proofs.laws.answers_exist.Goals as goal

pub returns : goal.returns
returns c = answer-exists c.reading_exists.ensures
