use Rattle.snapshot.proofs.StoredLaws.{kinds-carried, kinds-carried_all}
use Rattle.snapshot.proofs.laws.carrying_keeps_kinds.Goals as goal

pub returns-clause-one : goal.returns-clause-one
returns-clause-one c = kinds-carried

pub returns-clause-list : goal.returns-clause-list
returns-clause-list c list snapshot stored rise kinds = kinds-carried_all list snapshot stored rise kinds
