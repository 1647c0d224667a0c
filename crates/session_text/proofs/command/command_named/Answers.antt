use Rattle.session_text.proofs.Readings.{given_last, stopped, went_on}
use Rattle.session_text.proofs.command.command_named.Goals as goal

pub returns-in_err-ids-in-Delete : goal.returns-in_err-ids-in-Delete
returns-in_err-ids-in-Delete c = rw c.in-Delete.is (stopped c.in_err-ids-in-Delete.ensures c.from_residual.ensures.1)

pub returns-in_ok-ids-in-Delete : goal.returns-in_ok-ids-in-Delete
returns-in_ok-ids-in-Delete c = rw c.in-Delete.is (went_on c.in_ok-ids-in-Delete.ensures given_last)

pub returns-in_err-arrow-in-Unbind : goal.returns-in_err-arrow-in-Unbind
returns-in_err-arrow-in-Unbind c =
    rw c.in-Unbind.is (stopped c.in_err-arrow-in-Unbind.ensures c.from_residual-in_err-arrow-in-Unbind.ensures.1)

pub returns-in_ok-arrow-in-Unbind : goal.returns-in_ok-arrow-in-Unbind
returns-in_ok-arrow-in-Unbind c = rw c.in-Unbind.is (went_on c.in_ok-arrow-in-Unbind.ensures given_last)

pub returns-in_err-text-in-Unlabel : goal.returns-in_err-text-in-Unlabel
returns-in_err-text-in-Unlabel c =
    rw c.in-Unlabel.is (stopped c.in_err-text-in-Unlabel.ensures c.from_residual-in_err-text-in-Unlabel.ensures.1)

pub returns-in_ok-text-in-Unlabel : goal.returns-in_ok-text-in-Unlabel
returns-in_ok-text-in-Unlabel c = rw c.in-Unlabel.is (went_on c.in_ok-text-in-Unlabel.ensures given_last)

pub returns-in_err-ids-in-Frame : goal.returns-in_err-ids-in-Frame
returns-in_err-ids-in-Frame c =
    rw c.in-Frame.is (stopped c.in_err-ids-in-Frame.ensures c.from_residual-in_err-ids-in-Frame.ensures.1)

pub returns-in_ok-ids-in-Frame : goal.returns-in_ok-ids-in-Frame
returns-in_ok-ids-in-Frame c = rw c.in-Frame.is (went_on c.in_ok-ids-in-Frame.ensures given_last)

pub returns-in_err-ids-in-Unframe : goal.returns-in_err-ids-in-Unframe
returns-in_err-ids-in-Unframe c =
    rw c.in-Unframe.is (stopped c.in_err-ids-in-Unframe.ensures c.from_residual-in_err-ids-in-Unframe.ensures.1)

pub returns-in_ok-ids-in-Unframe : goal.returns-in_ok-ids-in-Unframe
returns-in_ok-ids-in-Unframe c = rw c.in-Unframe.is (went_on c.in_ok-ids-in-Unframe.ensures given_last)

pub returns-in_err-ids-in-Group : goal.returns-in_err-ids-in-Group
returns-in_err-ids-in-Group c =
    rw c.in-Group.is (stopped c.in_err-ids-in-Group.ensures c.from_residual-in_err-ids-in-Group.ensures.1)

pub returns-in_ok-ids-in-Group : goal.returns-in_ok-ids-in-Group
returns-in_ok-ids-in-Group c = rw c.in-Group.is (went_on c.in_ok-ids-in-Group.ensures given_last)

pub returns-in_err-ids-in-Ungroup : goal.returns-in_err-ids-in-Ungroup
returns-in_err-ids-in-Ungroup c =
    rw c.in-Ungroup.is (stopped c.in_err-ids-in-Ungroup.ensures c.from_residual-in_err-ids-in-Ungroup.ensures.1)

pub returns-in_ok-ids-in-Ungroup : goal.returns-in_ok-ids-in-Ungroup
returns-in_ok-ids-in-Ungroup c = rw c.in-Ungroup.is (went_on c.in_ok-ids-in-Ungroup.ensures given_last)
