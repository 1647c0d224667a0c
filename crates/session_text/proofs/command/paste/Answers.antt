use Rattle.session_text.proofs.Readings.{given_last, stopped, went_on}
use Rattle.session_text.proofs.command.paste.Goals as goal

pub returns-in_err-clip : goal.returns-in_err-clip
returns-in_err-clip c = stopped c.in_err-clip.ensures c.from_residual.ensures.1

pub returns-in_err-prefix : goal.returns-in_err-prefix
returns-in_err-prefix c =
    went_on c.in_ok-clip.ensures (stopped c.in_err-prefix.ensures c.from_residual-in_err-prefix.ensures.1)

pub returns-in_err-spot : goal.returns-in_err-spot
returns-in_err-spot c =
    went_on c.in_ok-clip.ensures (went_on c.in_ok-prefix.ensures
    (stopped c.in_err-spot.ensures c.from_residual-in_err-spot.ensures.1))

pub returns : goal.returns
returns c = went_on c.in_ok-clip.ensures (went_on c.in_ok-prefix.ensures (went_on c.in_ok-spot.ensures given_last))
