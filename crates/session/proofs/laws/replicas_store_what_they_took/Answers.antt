use Rattle.session.proofs.TakenLaws.{taken-stored}
use Rattle.session.proofs.laws.replicas_store_what_they_took.Goals as goal

pub returns : goal.returns
returns c = taken-stored
