use Rattle.std.proofs.Common.{sym, ap, ◌∙◌}
use Rattle.history.specs.Stacks.{noted}
use Rattle.undo_model.specs.Carrying.{with_all_put}
use Rattle.snapshot.proofs.CallerLemmas.{captured-untouched}
use Rattle.replica.proofs.board.Board.store_captured.Goals as goal

pub returns-clause-ok : goal.returns-clause-ok
returns-clause-ok c = record {
  entry = c.in_ok-step.entry;
  stands = c.in_ok-step.ensures.entry c.requires.board.0.0.snapshot_elements c.requires.board.0.0.stored_elements
      c.in_ok-take.ensures.elements;
  elements = c.in_ok-take.ensures.elements;
  stored = c.in_ok-take.ensures.stored;
  view = c.in_ok-take.ensures.view;
  snapshot =
      c.put.ensures ∙ ap (with_all_put c.in_ok-step.step) c.plan_capture.ensures.elements ∙ c.in_ok-step.ensures.step;
  stacks = c.note.ensures ∙ ap (noted c.in_ok-step.entry) c.reserve.ensures.stacks;
}

pub returns-clause-untouched : goal.returns-clause-untouched
returns-clause-untouched c =
    captured-untouched _ _ _
    (c.put.ensures ∙ ap (with_all_put c.in_ok-step.step) c.plan_capture.ensures.elements ∙ c.in_ok-step.ensures.step
    ∙ sym c.in_ok-take.ensures.stored)
