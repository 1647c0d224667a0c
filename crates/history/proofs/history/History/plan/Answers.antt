-- The plan is that of its side.
use Rattle.history.proofs.PlanLaws.{nothing-planned, done-planned, kept-planned, fits-planned, ok-same}
use Rattle.history.proofs.history.History.plan.Goals as goal

pub returns-clause-done : goal.returns-clause-done
returns-clause-done c step given is =
    done-planned c.args.store.now.elements c.args.stamp c.args.self.now.stacks c.args.pending
    c.args.direction c.in_ok-plan.plan c.step_of.result c.step_of.ensures.none c.step_of.ensures.some
    c.in_ok-plan.ensures.none c.in_ok-plan.ensures.some step given (ok-same _ _ is)

pub returns-clause-nothing : goal.returns-clause-nothing
returns-clause-nothing c =
    nothing-planned c.args.store.now.elements c.args.stamp c.args.self.now.stacks c.args.pending
    c.args.direction c.in_ok-plan.plan c.step_of.result c.step_of.ensures.none c.step_of.ensures.some
    c.in_ok-plan.ensures.none c.in_ok-plan.ensures.some

pub returns-clause-nothing_kept : goal.returns-clause-nothing_kept
returns-clause-nothing_kept c step is =
    kept-planned c.args.store.now.elements c.args.stamp c.args.self.now.stacks c.args.pending
    c.args.direction c.in_ok-plan.plan c.step_of.result c.step_of.ensures.none c.step_of.ensures.some
    c.in_ok-plan.ensures.none c.in_ok-plan.ensures.some step (ok-same _ _ is)

pub returns-clause-fits : goal.returns-clause-fits
returns-clause-fits c =
    fits-planned c.args.store.now.elements c.args.stamp c.args.self.now.stacks c.args.pending
    c.args.direction c.in_ok-plan.plan c.step_of.result c.step_of.ensures.none c.step_of.ensures.some
    c.in_ok-plan.ensures.none c.in_ok-plan.ensures.some
