use Rattle.session_text.proofs.Readings.{stopped, went_on}
use Rattle.session_text.proofs.command.command_of.Goals as goal

pub returns-in_err-name : goal.returns-in_err-name
returns-in_err-name c = stopped c.in_err-name.ensures c.from_residual.ensures.1

pub returns : goal.returns
returns c = went_on c.in_ok-name.ensures c.command_named.ensures
