use Rattle.session.proofs.TakenLaws.{taken-made}
use Rattle.session.proofs.laws.taken_updates_were_made.Goals as goal

pub returns : goal.returns
returns c = taken-made
