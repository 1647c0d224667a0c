-- An entry that isn't empty stands on the stack.
use Rattle.std.proofs.Common.{◌≡◌, None, IfOk, IfErr, IfSome, sym, subst}
use Rattle.history.specs.Stacks.{AreUnseen, StopsAt, OnFull}
use Rattle.history.specs.inner.Stacks.{IsPlanned}
use Rattle.history.proofs.PlanLaws.{with-none, with-more}
use Rattle.history.proofs.step.plan_noted.Goals as goal

pub returns-then-is_nothing-clause-none : goal.returns-then-is_nothing-clause-none
returns-then-is_nothing-clause-none c =
    subst (λ s. IfOk c.plan_back.result (λ plan. plan ≡ None → AreUnseen c.args.store.now.elements s))
    (sym (with-none c.args.pending.now c.args.stack.now.items (c.is_nothing.ensures.nothing c.if-is_nothing.true)))
    c.plan_back.ensures.none

pub returns-then-is_nothing-clause-some : goal.returns-then-is_nothing-clause-some
returns-then-is_nothing-clause-some c =
    subst (λ s. IfOk c.plan_back.result
    (λ plan. IfSome plan (IsPlanned c.args.store.now.elements c.args.stamp s)))
    (sym (with-none c.args.pending.now c.args.stack.now.items (c.is_nothing.ensures.nothing c.if-is_nothing.true)))
    c.plan_back.ensures.some

pub returns-then-is_nothing-clause-full : goal.returns-then-is_nothing-clause-full
returns-then-is_nothing-clause-full c =
    subst (λ s. IfErr c.plan_back.result (λ stop. OnFull stop (StopsAt c.args.store.now.elements s)))
    (sym (with-none c.args.pending.now c.args.stack.now.items (c.is_nothing.ensures.nothing c.if-is_nothing.true)))
    c.plan_back.ensures.full

pub returns-else-is_nothing-clause-none : goal.returns-else-is_nothing-clause-none
returns-else-is_nothing-clause-none c =
    subst (λ s. IfOk c.plan_over.result (λ plan. plan ≡ None → AreUnseen c.args.store.now.elements s))
    (sym (with-more c.args.pending.now c.args.stack.now.items (c.is_nothing.ensures.more c.if-is_nothing.false)))
    c.plan_over.ensures.none

pub returns-else-is_nothing-clause-some : goal.returns-else-is_nothing-clause-some
returns-else-is_nothing-clause-some c =
    subst (λ s. IfOk c.plan_over.result
    (λ plan. IfSome plan (IsPlanned c.args.store.now.elements c.args.stamp s)))
    (sym (with-more c.args.pending.now c.args.stack.now.items (c.is_nothing.ensures.more c.if-is_nothing.false)))
    c.plan_over.ensures.some

pub returns-else-is_nothing-clause-full : goal.returns-else-is_nothing-clause-full
returns-else-is_nothing-clause-full c =
    subst (λ s. IfErr c.plan_over.result (λ stop. OnFull stop (StopsAt c.args.store.now.elements s)))
    (sym (with-more c.args.pending.now c.args.stack.now.items (c.is_nothing.ensures.more c.if-is_nothing.false)))
    c.plan_over.ensures.full
