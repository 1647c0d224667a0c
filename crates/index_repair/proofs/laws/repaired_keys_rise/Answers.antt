use Rattle.index_repair.proofs.RepairLaws.{repaired-law, repaired-keeps}
use Rattle.index_repair.proofs.laws.repaired_keys_rise.Goals as goal

pub returns-clause-count : goal.returns-clause-count
returns-clause-count c = λ keys h. (repaired-law keys h).count

pub returns-clause-are_keys : goal.returns-clause-are_keys
returns-clause-are_keys c = λ keys h. (repaired-law keys h).are_keys

pub returns-clause-rise : goal.returns-clause-rise
returns-clause-rise c = λ keys h. (repaired-law keys h).rise

pub returns-clause-keeps : goal.returns-clause-keeps
returns-clause-keeps c = repaired-keeps
