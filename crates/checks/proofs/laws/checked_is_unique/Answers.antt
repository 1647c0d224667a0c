use Rattle.checks.proofs.Once.{checked-once, checked-some}
use Rattle.checks.proofs.laws.checked_is_unique.Goals as goal

pub returns-clause-once : goal.returns-clause-once
returns-clause-once c = checked-once

pub returns-clause-some : goal.returns-clause-some
returns-clause-some c = checked-some
