-- An entry on top that isn't seen is passed over.
use Rattle.std.proofs.Common.{◌++◌, [], ◌∷◌, IfSome, sym, subst}
use Rattle.std.proofs.lemmas.Result.{err_from_is_err_and}
use Rattle.history.specs.Stacks.{StopsAt}
use Rattle.history.specs.inner.Stacks.{IsPlanned}
use Rattle.history.proofs.PlanLaws.{planned-over, stops-over, unseen-over}
use Rattle.history.proofs.StepLaws.{OnFull-weaker}
use Rattle.history.proofs.step.plan_over.Goals as goal

pub returns-in_err-plan-2-clause-full : goal.returns-in_err-plan-2-clause-full
returns-in_err-plan-2-clause-full c =
    let store = c.args.store.now.elements in
    let stack = c.args.stack.now.items in
    let entry = c.args.pending.now in
    let p = err_from_is_err_and c.from_residual-in_err-plan-2.result c.from_residual-in_err-plan-2.ensures.1 in
    rw (p.1, p.2)
    (OnFull-weaker _ (StopsAt store stack) (StopsAt store (stack ++ entry ∷ []))
    (λ id stops. stops-over store c.args.stamp entry stack id (c.in_ok-seen.ensures.unseen c.if-seen.false)
    stops)
    c.in_err-plan-2.ensures.full)

pub returns-in-Some-clause-some : goal.returns-in-Some-clause-some
returns-in-Some-clause-some c =
    let store = c.args.store.now.elements in
    let stack = c.args.stack.now.items in
    let entry = c.args.pending.now in
    let plan = c.in-Some.plan in
    subst (IsPlanned store c.args.stamp (stack ++ entry ∷ [])) (sym c.with_one_more.ensures)
    (planned-over store c.args.stamp entry stack plan (c.in_ok-seen.ensures.unseen c.if-seen.false)
    (subst (λ o. IfSome o (IsPlanned store c.args.stamp stack)) c.in-Some.is c.in_ok-plan-2.ensures.some))

pub returns-in-None-clause-none : goal.returns-in-None-clause-none
returns-in-None-clause-none c same =
    unseen-over c.args.store.now.elements c.args.stamp c.args.pending.now c.args.stack.now.items
    (c.in_ok-seen.ensures.unseen c.if-seen.false)
    (c.in_ok-plan-2.ensures.none c.in-None.is)
