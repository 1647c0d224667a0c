-- What comes of the part is added, or nothing comes of it.
use Rattle.std.proofs.Common.{◌≡◌, ◌++◌, [], ◌∷◌, None, sym, subst, subst₂}
use Rattle.history.specs.Steps.{IsStep}
use Rattle.history.specs.inner.Steps.{ComesOf}
use Rattle.history.proofs.StepLaws.{step-same, step-more}
use Rattle.history.proofs.step.revert.Goals as goal
use Rattle.history.proofs.step.revert.Goals.{in-Some+in_ok-add, in_default}

pub returns-clause-ok : goal.returns-clause-ok
returns-clause-ok c parts store step rising stored =
    let given = c.args.given.now.items in
    let made = c.args.made.now.items in
    let part = c.args.part.now in
    elim c.match-branch-2.branch [
      | in-Some+in_ok-add w ↦
          let added = w.in_ok-add.ensures in
          rw (w.given-is, w.made-is)
          (subst₂ (IsStep (parts ++ part ∷ []) store c.args.stamp.time c.args.stamp.nonce) (sym added.given)
          (sym added.made.1)
          (step-more store c.args.stamp.time c.args.stamp.nonce parts given made part c.args.now.now step rising stored
          w.in-Some.e
          added.made.0
          (subst (ComesOf part c.args.now.now c.args.stamp.time c.args.stamp.nonce) w.in-Some.is c.in_ok-e.ensures.ok)
          added.made.2))
      | in_default w ↦
          let none : c.in_ok-e.field-0 ≡ None = cc in
          rw (w.given-is, w.made-is)
          (step-same store c.args.stamp.time c.args.stamp.nonce parts given made part c.args.now.now step rising stored
          (subst (ComesOf part c.args.now.now c.args.stamp.time c.args.stamp.nonce) none c.in_ok-e.ensures.ok))
    ]
