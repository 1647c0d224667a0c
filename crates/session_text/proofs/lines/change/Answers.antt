use Rattle.session_text.proofs.Readings.{given_last, stopped, went_on}
use Rattle.session_text.proofs.lines.change.Goals as goal

pub returns-in_err-time : goal.returns-in_err-time
returns-in_err-time c = stopped c.in_err-time.ensures c.from_residual.ensures.1

pub returns-in_err-capture : goal.returns-in_err-capture
returns-in_err-capture c =
    went_on c.in_ok-time.ensures (stopped c.in_err-capture.ensures c.from_residual-in_err-capture.ensures.1)

pub returns-in_err-command : goal.returns-in_err-command
returns-in_err-command c =
    went_on c.in_ok-time.ensures (went_on c.in_ok-capture.ensures
    (stopped c.in_err-command.ensures c.from_residual-in_err-command.ensures.1))

pub returns : goal.returns
returns c = went_on c.in_ok-time.ensures (went_on c.in_ok-capture.ensures (went_on c.in_ok-command.ensures given_last))
