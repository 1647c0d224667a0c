use Rattle.session_text.proofs.Readings.{given_last, stopped, went_on}
use Rattle.session_text.proofs.command.bind.Goals as goal

pub returns-in_err-arrow : goal.returns-in_err-arrow
returns-in_err-arrow c = stopped c.in_err-arrow.ensures c.from_residual.ensures.1

pub returns-in_err-target : goal.returns-in_err-target
returns-in_err-target c =
    went_on c.in_ok-arrow.ensures (stopped c.in_err-target.ensures c.from_residual-in_err-target.ensures.1)

pub returns-in_err-rest : goal.returns-in_err-rest
returns-in_err-rest c =
    went_on c.in_ok-arrow.ensures (went_on c.in_ok-target.ensures
    (stopped c.in_err-rest.ensures c.from_residual-in_err-rest.ensures.1))

pub returns : goal.returns
returns c = went_on c.in_ok-arrow.ensures (went_on c.in_ok-target.ensures (went_on c.in_ok-rest.ensures given_last))
