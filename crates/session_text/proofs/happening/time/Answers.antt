use Rattle.session_text.proofs.Readings.{given_last, stopped, went_on}
use Rattle.session_text.proofs.happening.time.Goals as goal

pub returns-in_err-at : goal.returns-in_err-at
returns-in_err-at c = stopped c.in_err-at.ensures c.from_residual.ensures.1

pub returns-in_err-time : goal.returns-in_err-time
returns-in_err-time c = went_on c.in_ok-at.ensures (stopped c.in_err-time.ensures c.from_residual-in_err-time.ensures.1)

pub returns : goal.returns
returns c = went_on c.in_ok-at.ensures (went_on c.in_ok-time.ensures given_last)
