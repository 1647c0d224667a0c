use Rattle.snapshot.proofs.StoredLaws.{kinds-stored, kinds-known}
use Rattle.snapshot.proofs.laws.stored_kinds_are_known.Goals as goal

pub returns-clause-captured : goal.returns-clause-captured
returns-clause-captured c = kinds-stored

pub returns-clause-known : goal.returns-clause-known
returns-clause-known c = kinds-known
