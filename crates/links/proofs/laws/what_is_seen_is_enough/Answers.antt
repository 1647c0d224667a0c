use Rattle.links.proofs.LookLaws.{looks-alike, seen-alone}
use Rattle.links.proofs.laws.what_is_seen_is_enough.Goals as goal

pub returns-clause-alike : goal.returns-clause-alike
returns-clause-alike c = looks-alike

pub returns-clause-alone : goal.returns-clause-alone
returns-clause-alone c = seen-alone
