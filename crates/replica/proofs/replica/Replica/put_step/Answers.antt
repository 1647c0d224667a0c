-- What was planned becomes stored, and the replica stands for what the step makes of its state.
use Rattle.history.specs.Stacks.{noted, put_step}
use Rattle.replica.specs.Boards.{told}
use Rattle.replica.proofs.CallLaws.{planned-gives}
use Rattle.replica.proofs.ReplicaLaws.{planned-told, put-told, put-stands}
use Rattle.replica.proofs.replica.Replica.put_step.Goals as goal

pub put_step-requires-clause-given : goal.put_step-requires-clause-given
put_step-requires-clause-given c =
    let board = c.self.inside.board in
    let p = planned-told (told board) (told board) c.self.inside.held c.args.self.now c.self.view_is c.self.invariant.0
    c.args.plan c.requires.planned in
    planned-gives c.args.plan.direction board.store.elements c.args.plan.stamp c.args.plan.step
    (noted p.entry board.history.stacks) (put_step c.args.plan.history board.history.stacks) p.comes

pub put_step-requires-clause-fits : goal.put_step-requires-clause-fits
put_step-requires-clause-fits c =
    let board = c.self.inside.board in
    (planned-told (told board) (told board) c.self.inside.held c.args.self.now c.self.view_is c.self.invariant.0
    c.args.plan c.requires.planned).fits

pub invariant_of-self-2 : goal.invariant_of-self-2
invariant_of-self-2 c =
    let old = told c.self.inside.board in
    let new = told c.put_step.new.self in
    let p = planned-told old new c.self.inside.held c.args.self.now c.self.view_is c.self.invariant.0 c.args.plan
    c.requires.planned in (
      put-told old new c.self.inside.held c.args.self.now c.self.view_is c.self.invariant.0 c.args.plan p
          c.in_ok-put_step.ensures.ok,
      c.put_step.ensures.untouched,
    )

pub returns-clause-after : goal.returns-clause-after
returns-clause-after c =
    let old = told c.self.inside.board in
    let new = told c.put_step.new.self in
    let p = planned-told old new c.self.inside.held c.args.self.now c.self.view_is c.self.invariant.0 c.args.plan
    c.requires.planned in
    put-stands old new c.self.inside.held c.args.self.now c.self.view_is c.self.invariant.0 c.args.plan p
    c.in_ok-put_step.ensures.ok
