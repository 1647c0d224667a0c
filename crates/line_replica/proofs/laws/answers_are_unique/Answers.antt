use Rattle.line_replica.proofs.Once.{all-once, answers-once}
use Rattle.line_replica.proofs.laws.answers_are_unique.Goals as goal

pub returns-clause-one : goal.returns-clause-one
returns-clause-one c = answers-once

pub returns-clause-all : goal.returns-clause-all
returns-clause-all c = all-once
