-- The plan stands for what the turn makes of the replica's state.
use Rattle.std.proofs.Common.{subst, sym}
use Rattle.replica.specs.Boards.{IsTold, told}
use Rattle.replica.proofs.ReplicaLaws.{planned-seen, planned-answers, plan-stops}
use Rattle.replica.proofs.replica.Replica.plan.Goals as goal

pub invariant_of-self : goal.invariant_of-self
invariant_of-self c = (subst IsTold (sym c.plan.ensures.kept) c.self.invariant.0, c.plan.ensures.untouched)

pub returns-clause-planned : goal.returns-clause-planned
returns-clause-planned c =
    planned-seen (told c.self.inside.board) (told c.plan.new.self) c.self.inside.held c.args.self.now c.self.view_is
    c.self.invariant.0 c.plan.result c.plan.ensures.planned

pub returns-clause-step : goal.returns-clause-step
returns-clause-step c =
    planned-answers (told c.self.inside.board) (told c.plan.new.self) c.self.inside.held c.args.self.now c.self.view_is
    c.self.invariant.0 c.args.direction c.args.stamp c.plan.result c.plan.ensures.planned
    c.plan.ensures.call

pub returns-clause-full : goal.returns-clause-full
returns-clause-full c =
    plan-stops (told c.self.inside.board) (told c.plan.new.self) c.self.inside.held c.args.self.now c.self.view_is
    c.self.invariant.0 c.args.direction c.args.stamp c.plan.result
    c.plan.ensures.full
