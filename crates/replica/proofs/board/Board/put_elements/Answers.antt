use Rattle.std.proofs.Common.{OnOk, sym, subst}
use Rattle.elem.specs.Said.{AreElements}
use Rattle.history.specs.declared.step.Step.{Step}
use Rattle.replica.specs.inner.Boards.{GivesElements}
use Rattle.replica.proofs.board.Board.put_elements.Goals as goal

pub returns-in-Done-clause-elements : goal.returns-in-Done-clause-elements
returns-in-Done-clause-elements c =
    subst (λ (step : Step). OnOk c.store_step.result (GivesElements step)) (sym c.in-Done.is)
    (subst (λ es. OnOk c.store_step.result (AreElements es)) c.as_slice.ensures c.store_step.ensures.elements)
