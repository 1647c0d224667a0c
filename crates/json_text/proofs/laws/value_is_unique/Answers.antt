use Rattle.json_text.proofs.Reading.{Stands-once}
use Rattle.json_text.proofs.laws.value_is_unique.Goals as goal

pub returns : goal.returns
returns c = λ bytes text rest other more one two. Stands-once one two
