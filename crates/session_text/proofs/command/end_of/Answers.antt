use Rattle.session_text.proofs.Readings.{given_last, stopped, went_on}
use Rattle.session_text.proofs.command.end_of.Goals as goal

pub returns-in_err-arrow : goal.returns-in_err-arrow
returns-in_err-arrow c = stopped c.in_err-arrow.ensures c.from_residual.ensures.1

pub returns-in_err-side : goal.returns-in_err-side
returns-in_err-side c =
    went_on c.in_ok-arrow.ensures (stopped c.in_err-side.ensures c.from_residual-in_err-side.ensures.1)

pub returns : goal.returns
returns c = went_on c.in_ok-arrow.ensures (went_on c.in_ok-side.ensures given_last)
