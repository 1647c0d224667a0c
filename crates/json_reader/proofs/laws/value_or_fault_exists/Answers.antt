use Rattle.json_reader.proofs.Outcomes.{value-or-fault}
use Rattle.json_reader.proofs.laws.value_or_fault_exists.Goals as goal

pub returns : goal.returns
returns c = value-or-fault
