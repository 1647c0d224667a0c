use Rattle.line_replica.proofs.Asked.{told-answered, told-those-answered}
use Rattle.line_replica.proofs.laws.told_lines_are_answered.Goals as goal

pub returns-clause-all : goal.returns-clause-all
returns-clause-all c = told-answered

pub returns-clause-others : goal.returns-clause-others
returns-clause-others c = told-those-answered
