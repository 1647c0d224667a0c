use Rattle.json_text.proofs.FirstLaws.{first_texts-distinct}
use Rattle.json_text.proofs.laws.distinct_texts_stay.Goals as goal

pub returns : goal.returns
returns c = first_texts-distinct
