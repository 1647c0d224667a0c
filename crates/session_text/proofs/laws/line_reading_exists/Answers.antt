use Rattle.session_text.proofs.LinesOne.{opening-told, line-told}
use Rattle.session_text.proofs.laws.line_reading_exists.Goals as goal

pub returns-clause-opening : goal.returns-clause-opening
returns-clause-opening c = opening-told

pub returns-clause-line : goal.returns-clause-line
returns-clause-line c = line-told
