use Rattle.json_text.proofs.FirstLaws.{IsDistinct-first_texts, Contains-first_texts}
use Rattle.json_text.proofs.laws.first_occurrences_are_the_texts.Goals as goal

pub returns-clause-distinct : goal.returns-clause-distinct
returns-clause-distinct c = IsDistinct-first_texts

pub returns-clause-same : goal.returns-clause-same
returns-clause-same c = Contains-first_texts
