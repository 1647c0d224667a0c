use Rattle.checks.proofs.Existing.{checked-exists}
use Rattle.checks.proofs.laws.checked_exists.Goals as goal

pub returns : goal.returns
returns c = checked-exists
