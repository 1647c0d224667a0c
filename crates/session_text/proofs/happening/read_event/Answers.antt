use Rattle.session_text.proofs.Readings.{stopped, went_on}
use Rattle.session_text.proofs.happening.read_event.Goals as goal

pub returns-in_err-members : goal.returns-in_err-members
returns-in_err-members c = stopped c.in_err-members.ensures c.from_residual.ensures.1

pub returns-in_err-name : goal.returns-in_err-name
returns-in_err-name c =
    went_on c.in_ok-members.ensures (stopped c.in_err-name.ensures c.from_residual-in_err-name.ensures.1)

pub returns : goal.returns
returns c = went_on c.in_ok-members.ensures (went_on c.in_ok-name.ensures c.event_named.ensures)
