use Rattle.json_text.proofs.FirstLaws.{first_texts-push}
use Rattle.json_text.proofs.laws.one_more_is_last.Goals as goal

pub returns-clause-one_more : goal.returns-clause-one_more
returns-clause-one_more c = first_texts-push
