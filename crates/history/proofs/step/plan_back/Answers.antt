-- The plan is that of the topmost entry.
use Rattle.std.proofs.Common.{◌≡◌, ◌+◌, ◌<◌, Some, IfSome, length, slice_get, length-drop, sym, ap, ◌∙◌, subst, arith}
use Rattle.std.proofs.lemmas.Option.{slice_get-get_or, slice_get_within}
use Rattle.std.proofs.lemmas.Result.{err_from_is_err_and}
use Rattle.history.specs.inner.Places.{IsSeenAt}
use Rattle.history.specs.Stacks.{StopsAt}
use Rattle.history.specs.Steps.{IsLeastFull}
use Rattle.history.proofs.PlanLaws.{planned-at, stops-at}
use Rattle.history.proofs.StepLaws.{OnFull-weaker}
use Rattle.history.proofs.step.plan_back.Goals as goal
use Rattle.history.proofs.step.plan_back.Goals.{After-index-entry}

seen : (c : After-index-entry) → IsSeenAt c.args.store.now.elements c.args.stack.now.items c.in-Some.i
seen c = subst (λ o. IfSome o (IsSeenAt c.args.store.now.elements c.args.stack.now.items)) c.in-Some.is
    c.in_ok-i.ensures.some

within : (c : After-index-entry) → c.in-Some.i < length c.args.stack.now.items
within c = let is = seen c in slice_get_within c.args.stack.now.items c.in-Some.i is.parts is.at

at : (c : After-index-entry) → slice_get c.args.stack.now.items c.in-Some.i ≡ Some c.index-entry.result.now
at c = slice_get-get_or c.args.stack.now.items c.in-Some.i c.index-entry.result.now (within c)
    ∙ ap Some (sym c.index-entry.ensures)

pub planned-requires : goal.planned-requires
planned-requires c =
    let d = (goal.at.planned-requires c).After-index-entry in
    record { stored = c.requires.stored c.index-entry.result.now (c.in-Some.i, within d, sym c.index-entry.ensures) }

pub returns-in_err-plan-in-Some-clause-full : goal.returns-in_err-plan-in-Some-clause-full
returns-in_err-plan-in-Some-clause-full c =
    let d = (goal.at.returns-in_err-plan-in-Some-clause-full c).After-index-entry in
    let store = c.args.store.now.elements in
    let entry = c.index-entry.result.now in
    let p =
    err_from_is_err_and c.from_residual-in_err-plan-in-Some.result c.from_residual-in_err-plan-in-Some.ensures.1 in
    rw (p.1, p.2)
    (OnFull-weaker _ (IsLeastFull entry store) (StopsAt store c.args.stack.now.items)
    (λ id full. stops-at store c.args.stamp c.args.stack.now.items c.in-Some.i entry id (seen d) (at d)
    full)
    c.in_err-plan-in-Some.ensures.full)

pub returns-in_ok-plan-in-Some-clause-some : goal.returns-in_ok-plan-in-Some-clause-some
returns-in_ok-plan-in-Some-clause-some c =
    let d = (goal.at.returns-in_ok-plan-in-Some-clause-some c).After-index-entry in
    let xs = c.args.stack.now.items in
    let i = c.in-Some.i in
    let plan = c.in_ok-plan-in-Some.plan in
    let low = within d in
    planned-at c.args.store.now.elements c.args.stamp xs i c.index-entry.result.now plan (seen d) (at d)
    (omega (
      arith,
      c.in_ok-plan-in-Some.ensures.passed,
      c.len.ensures,
      c.args.stack.now.ok.0,
      length-drop (i + 1) xs,
      low,
    ))
    c.in_ok-plan-in-Some.ensures.ok

pub returns-in-None-clause-none : goal.returns-in-None-clause-none
returns-in-None-clause-none c same = c.in_ok-i.ensures.none c.in-None.is
