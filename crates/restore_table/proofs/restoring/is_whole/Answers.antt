-- The rows rise from the empty name on.
use Rattle.restore_table.proofs.Rows.{defaults-after}
use Rattle.restore_table.proofs.restoring.is_whole.Goals as goal

pub loop-at-init : goal.loop-at-init
loop-at-init c =
    rw c.rows-left.ensures.rows (record { rise = defaults-after; whole = λ whole. whole; gone = λ none. none })
