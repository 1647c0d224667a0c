use Rattle.session_text.proofs.Readings.{stopped, went_on}
use Rattle.session_text.proofs.command.clip.Goals as goal

pub returns-in_err-value : goal.returns-in_err-value
returns-in_err-value c = stopped c.in_err-value.ensures c.from_residual.ensures.1

pub returns : goal.returns
returns c = went_on c.in_ok-value.ensures c.clip_in.ensures
