use Rattle.snapshot.proofs.TouchedLaws.{untouched-taken, untouched-carried}
use Rattle.snapshot.proofs.laws.untouched_ids_stay.Goals as goal

pub returns-clause-taken : goal.returns-clause-taken
returns-clause-taken c = untouched-taken

pub returns-clause-carried : goal.returns-clause-carried
returns-clause-carried c = untouched-carried
