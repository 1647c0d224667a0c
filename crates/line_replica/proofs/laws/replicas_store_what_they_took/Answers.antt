use Rattle.std.proofs.Common.{None, Some}
use Rattle.line_replica.proofs.Stores.{lines-store}
use Rattle.line_replica.proofs.laws.replicas_store_what_they_took.Goals as goal

pub returns : goal.returns
returns c = λ lines texts l are. lines-store None lines texts (Some l) are tt
