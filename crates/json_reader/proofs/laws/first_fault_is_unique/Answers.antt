-- The longest stretch that begins a value has one length, and the place where it ends tells the fault.
use Rattle.json_reader.proofs.FirstFaults.{fault-once}
use Rattle.json_reader.proofs.laws.first_fault_is_unique.Goals as goal

pub returns : goal.returns
returns c = fault-once
