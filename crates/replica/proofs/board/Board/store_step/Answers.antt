-- The snapshot is what is stored then.
use Rattle.std.proofs.Common.{sym, ap, ◌∙◌}
use Rattle.undo_model.specs.Carrying.{with_all_put}
use Rattle.snapshot.proofs.CallerLemmas.{captured-untouched}
use Rattle.replica.proofs.board.Board.store_step.Goals as goal

pub returns-clause-untouched : goal.returns-clause-untouched
returns-clause-untouched c =
    captured-untouched _ _ _
    (c.put.ensures ∙ ap (with_all_put c.in_ok-captured.captured) c.plan_capture.ensures.elements
    ∙ c.in_ok-captured.ensures.step ∙ sym c.in_ok-take.ensures.stored)
