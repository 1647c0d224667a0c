use Rattle.session_text.proofs.LinesOne.{opening-once, line-once}
use Rattle.session_text.proofs.laws.line_reading_is_unique.Goals as goal

pub returns-clause-opening : goal.returns-clause-opening
returns-clause-opening c = opening-once

pub returns-clause-line : goal.returns-clause-line
returns-clause-line c = line-once
