use Rattle.session_text.proofs.Readings.{given_last, stopped, went_on}
use Rattle.session_text.proofs.command.set.Goals as goal

pub returns-in_err-id : goal.returns-in_err-id
returns-in_err-id c = stopped c.in_err-id.ensures c.from_residual.ensures.1

pub returns-in_err-member : goal.returns-in_err-member
returns-in_err-member c =
    went_on c.in_ok-id.ensures (stopped c.in_err-member.ensures c.from_residual-in_err-member.ensures.1)

pub returns-in_err-value : goal.returns-in_err-value
returns-in_err-value c =
    went_on c.in_ok-id.ensures (went_on c.in_ok-member.ensures
    (stopped c.in_err-value.ensures c.from_residual-in_err-value.ensures.1))

pub returns : goal.returns
returns c = went_on c.in_ok-id.ensures (went_on c.in_ok-member.ensures (went_on c.in_ok-value.ensures given_last))
