use Rattle.session_text.proofs.Readings.{given_last, stopped, went_on}
use Rattle.session_text.proofs.command.label.Goals as goal

pub returns-in_err-container : goal.returns-in_err-container
returns-in_err-container c = stopped c.in_err-container.ensures c.from_residual.ensures.1

pub returns-in_err-text : goal.returns-in_err-text
returns-in_err-text c =
    went_on c.in_ok-container.ensures (stopped c.in_err-text.ensures c.from_residual-in_err-text.ensures.1)

pub returns : goal.returns
returns c = went_on c.in_ok-container.ensures (went_on c.in_ok-text.ensures given_last)
