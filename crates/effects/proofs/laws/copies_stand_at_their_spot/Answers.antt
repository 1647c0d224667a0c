use Rattle.effects.proofs.CopyLaws.{copies-keys, copies-rest, keys-between}
use Rattle.effects.proofs.laws.copies_stand_at_their_spot.Goals as goal

pub returns-clause-rise : goal.returns-clause-rise
returns-clause-rise c = λ shown spot count rising keys. (keys-between shown spot count rising keys).rise

pub returns-clause-keys : goal.returns-clause-keys
returns-clause-keys c = copies-keys

pub returns-clause-rest : goal.returns-clause-rest
returns-clause-rest c = copies-rest
