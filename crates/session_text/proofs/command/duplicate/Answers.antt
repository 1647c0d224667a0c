use Rattle.session_text.proofs.Readings.{given_last, stopped, went_on}
use Rattle.session_text.proofs.command.duplicate.Goals as goal

pub returns-in_err-ids : goal.returns-in_err-ids
returns-in_err-ids c = stopped c.in_err-ids.ensures c.from_residual.ensures.1

pub returns-in_err-spot : goal.returns-in_err-spot
returns-in_err-spot c =
    went_on c.in_ok-ids.ensures (stopped c.in_err-spot.ensures c.from_residual-in_err-spot.ensures.1)

pub returns : goal.returns
returns c = went_on c.in_ok-ids.ensures (went_on c.in_ok-spot.ensures given_last)
