use Rattle.session_text.proofs.Readings.{stopped, went_on}
use Rattle.session_text.proofs.happening.command_in.Goals as goal

pub returns-in_err-members : goal.returns-in_err-members
returns-in_err-members c = stopped c.in_err-members.ensures c.from_residual.ensures.1

pub returns : goal.returns
returns c = went_on c.in_ok-members.ensures c.command_of.ensures
