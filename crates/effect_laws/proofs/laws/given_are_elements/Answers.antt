use Rattle.effect_laws.proofs.GivenLaws.{board-given}
use Rattle.effect_laws.proofs.laws.given_are_elements.Goals as goal

pub returns : goal.returns
returns c = board-given
