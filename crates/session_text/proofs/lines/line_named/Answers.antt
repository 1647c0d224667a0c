use Rattle.session_text.proofs.Readings.{given_last, stopped, went_on}
use Rattle.session_text.proofs.lines.line_named.Goals as goal

pub returns-in-Change : goal.returns-in-Change
returns-in-Change c = rw c.in-Change.is c.change.ensures

pub returns-in_err-time-in-Undo : goal.returns-in_err-time-in-Undo
returns-in_err-time-in-Undo c = rw c.in-Undo.is (stopped c.in_err-time-in-Undo.ensures c.from_residual.ensures.1)

pub returns-in_ok-time-in-Undo : goal.returns-in_ok-time-in-Undo
returns-in_ok-time-in-Undo c = rw c.in-Undo.is (went_on c.in_ok-time-in-Undo.ensures given_last)

pub returns-in_err-time-in-Redo : goal.returns-in_err-time-in-Redo
returns-in_err-time-in-Redo c =
    rw c.in-Redo.is (stopped c.in_err-time-in-Redo.ensures c.from_residual-in_err-time-in-Redo.ensures.1)

pub returns-in_ok-time-in-Redo : goal.returns-in_ok-time-in-Redo
returns-in_ok-time-in-Redo c = rw c.in-Redo.is (went_on c.in_ok-time-in-Redo.ensures given_last)

pub returns-in_err-elements-in-Take : goal.returns-in_err-elements-in-Take
returns-in_err-elements-in-Take c =
    rw c.in-Take.is (stopped c.in_err-elements-in-Take.ensures c.from_residual-in_err-elements-in-Take.ensures.1)

pub returns-in_ok-elements-in-Take : goal.returns-in_ok-elements-in-Take
returns-in_ok-elements-in-Take c = rw c.in-Take.is (went_on c.in_ok-elements-in-Take.ensures given_last)

pub returns-in_err-text-in-Receive : goal.returns-in_err-text-in-Receive
returns-in_err-text-in-Receive c =
    rw c.in-Receive.is (stopped c.in_err-text-in-Receive.ensures c.from_residual-in_err-text-in-Receive.ensures.1)

pub returns-in_ok-text-in-Receive : goal.returns-in_ok-text-in-Receive
returns-in_ok-text-in-Receive c = rw c.in-Receive.is (went_on c.in_ok-text-in-Receive.ensures given_last)

pub returns-in_err-id-in-Hold : goal.returns-in_err-id-in-Hold
returns-in_err-id-in-Hold c =
    rw c.in-Hold.is (stopped c.in_err-id-in-Hold.ensures c.from_residual-in_err-id-in-Hold.ensures.1)

pub returns-in_ok-id-in-Hold : goal.returns-in_ok-id-in-Hold
returns-in_ok-id-in-Hold c = rw c.in-Hold.is (went_on c.in_ok-id-in-Hold.ensures given_last)

pub returns-in_err-id-in-Release : goal.returns-in_err-id-in-Release
returns-in_err-id-in-Release c =
    rw c.in-Release.is (stopped c.in_err-id-in-Release.ensures c.from_residual-in_err-id-in-Release.ensures.1)

pub returns-in_ok-id-in-Release : goal.returns-in_ok-id-in-Release
returns-in_ok-id-in-Release c = rw c.in-Release.is (went_on c.in_ok-id-in-Release.ensures given_last)

pub returns-in-Scene : goal.returns-in-Scene
returns-in-Scene c = rw c.in-Scene.is given_last

pub returns-in-State : goal.returns-in-State
returns-in-State c = rw c.in-State.is given_last

pub returns-in_err-id-in-Stored : goal.returns-in_err-id-in-Stored
returns-in_err-id-in-Stored c =
    rw c.in-Stored.is (stopped c.in_err-id-in-Stored.ensures c.from_residual-in_err-id-in-Stored.ensures.1)

pub returns-in_ok-id-in-Stored : goal.returns-in_ok-id-in-Stored
returns-in_ok-id-in-Stored c = rw c.in-Stored.is (went_on c.in_ok-id-in-Stored.ensures given_last)

pub returns-in-Lengths : goal.returns-in-Lengths
returns-in-Lengths c = rw c.in-Lengths.is given_last

pub returns-in-Pending : goal.returns-in-Pending
returns-in-Pending c = rw c.in-Pending.is given_last
