use Rattle.session_text.proofs.Readings.{given_last, stopped, went_on}
use Rattle.session_text.proofs.command.ids_and.Goals as goal

pub returns-in_err-ids : goal.returns-in_err-ids
returns-in_err-ids c = stopped c.in_err-ids.ensures c.from_residual.ensures.1

pub returns-in_err-text : goal.returns-in_err-text
returns-in_err-text c =
    went_on c.in_ok-ids.ensures (stopped c.in_err-text.ensures c.from_residual-in_err-text.ensures.1)

pub returns : goal.returns
returns c = went_on c.in_ok-ids.ensures (went_on c.in_ok-text.ensures given_last)
