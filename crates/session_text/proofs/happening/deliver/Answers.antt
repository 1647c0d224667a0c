use Rattle.session_text.proofs.Readings.{given_last, stopped, went_on}
use Rattle.session_text.proofs.happening.deliver.Goals as goal

pub returns-in_err-to : goal.returns-in_err-to
returns-in_err-to c = stopped c.in_err-to.ensures c.from_residual.ensures.1

pub returns-in_err-picks : goal.returns-in_err-picks
returns-in_err-picks c =
    went_on c.in_ok-to.ensures (stopped c.in_err-picks.ensures c.from_residual-in_err-picks.ensures.1)

pub returns : goal.returns
returns c = went_on c.in_ok-to.ensures (went_on c.in_ok-picks.ensures given_last)
