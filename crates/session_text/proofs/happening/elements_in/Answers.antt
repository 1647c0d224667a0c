use Rattle.session_text.proofs.Readings.{stopped, went_on}
use Rattle.session_text.proofs.happening.elements_in.Goals as goal

pub returns-in_err-values : goal.returns-in_err-values
returns-in_err-values c = stopped c.in_err-values.ensures c.from_residual.ensures.1

pub returns : goal.returns
returns c = went_on c.in_ok-values.ensures c.drawn.ensures
