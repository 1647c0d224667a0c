-- The plan is that of the stack once the pending entry is noted.
use Rattle.std.proofs.Common.{◌≡◌, None, IfOk, sym, ◌∙◌, subst}
use Rattle.history.specs.Stacks.{AreUnseen, HaveStoredIds, noted, side}
use Rattle.history.proofs.PlanLaws.{left-none}
use Rattle.history.proofs.history.History.plan_side.Goals as goal

pub plan_noted-requires-clause-stored : goal.plan_noted-requires-clause-stored
plan_noted-requires-clause-stored c =
    subst (HaveStoredIds c.args.store.now.elements) (λ i. side (c.in-Undo.is i) (sym c.self.view_is i).stacks)
    c.requires.stored

pub plan_back-requires : goal.plan_back-requires
plan_back-requires c = record {
  stored =
      subst (HaveStoredIds c.args.store.now.elements) (λ i. side (c.in-Redo.is i) (sym c.self.view_is i).stacks)
      c.requires.stored;
}

pub returns-in-Undo-clause-none : goal.returns-in-Undo-clause-none
returns-in-Undo-clause-none c =
    subst (λ stack. IfOk c.plan_noted.result (λ plan. plan ≡ None → AreUnseen c.args.store.now.elements stack))
    (λ i. side (sym c.in-Undo.is i) (noted c.args.pending.now (c.self.view_is i).stacks)) c.plan_noted.ensures.none

pub returns-in-Redo-clause-none : goal.returns-in-Redo-clause-none
returns-in-Redo-clause-none c =
    subst (λ stack. IfOk c.plan_back.result (λ plan. plan ≡ None → AreUnseen c.args.store.now.elements stack))
    (sym (left-none c.args.pending.now c.self.inside.redo.items (c.is_nothing.ensures.nothing c.if-is_nothing.true))
    ∙ (λ i. side (sym c.in-Redo.is i) (noted c.args.pending.now (c.self.view_is i).stacks)))
    c.plan_back.ensures.none
