use Rattle.session_text.proofs.Readings.{given_last, stopped, went_on}
use Rattle.session_text.proofs.happening.event_named.Goals as goal

pub returns-in-Change : goal.returns-in-Change
returns-in-Change c = rw c.in-Change.is (c.change.ensures c.args.made)

pub returns-in_err-elements-in-Update : goal.returns-in_err-elements-in-Update
returns-in_err-elements-in-Update c =
    rw c.in-Update.is (stopped c.in_err-elements-in-Update.ensures c.from_residual.ensures.1)

pub returns-in_ok-elements-in-Update : goal.returns-in_ok-elements-in-Update
returns-in_ok-elements-in-Update c = rw c.in-Update.is (went_on c.in_ok-elements-in-Update.ensures given_last)

pub returns-in_err-at-in-Hold : goal.returns-in_err-at-in-Hold
returns-in_err-at-in-Hold c =
    rw c.in-Hold.is (stopped c.in_err-at-in-Hold.ensures c.from_residual-in_err-at-in-Hold.ensures.1)

pub returns-in_ok-at-in-Hold : goal.returns-in_ok-at-in-Hold
returns-in_ok-at-in-Hold c = rw c.in-Hold.is (went_on c.in_ok-at-in-Hold.ensures given_last)

pub returns-in_err-at-in-Release : goal.returns-in_err-at-in-Release
returns-in_err-at-in-Release c =
    rw c.in-Release.is (stopped c.in_err-at-in-Release.ensures c.from_residual-in_err-at-in-Release.ensures.1)

pub returns-in_ok-at-in-Release : goal.returns-in_ok-at-in-Release
returns-in_ok-at-in-Release c = rw c.in-Release.is (went_on c.in_ok-at-in-Release.ensures given_last)

pub returns-in_err-at-in-Undo : goal.returns-in_err-at-in-Undo
returns-in_err-at-in-Undo c =
    rw c.in-Undo.is (stopped c.in_err-at-in-Undo.ensures c.from_residual-in_err-at-in-Undo.ensures.1)

pub returns-in_ok-at-in-Undo : goal.returns-in_ok-at-in-Undo
returns-in_ok-at-in-Undo c = rw c.in-Undo.is (went_on c.in_ok-at-in-Undo.ensures given_last)

pub returns-in_err-at-in-Redo : goal.returns-in_err-at-in-Redo
returns-in_err-at-in-Redo c =
    rw c.in-Redo.is (stopped c.in_err-at-in-Redo.ensures c.from_residual-in_err-at-in-Redo.ensures.1)

pub returns-in_ok-at-in-Redo : goal.returns-in_ok-at-in-Redo
returns-in_ok-at-in-Redo c = rw c.in-Redo.is (went_on c.in_ok-at-in-Redo.ensures given_last)
