use Rattle.snapshot.proofs.StoredLaws.{since-stored, pending-stored}
use Rattle.snapshot.proofs.laws.captured_ids_are_stored.Goals as goal

pub returns-clause-since : goal.returns-clause-since
returns-clause-since c = since-stored

pub returns-clause-pending : goal.returns-clause-pending
returns-clause-pending c = pending-stored
