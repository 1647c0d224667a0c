-- What is left when none is left is nothing.
use Rattle.std.proofs.Common.{subst, sym}
use Rattle.effects.specs.inner.Concerning.{HaveLinked}
use Rattle.effects.proofs.ConcerningLaws.{linked-cons, linked-none}
use Rattle.effects.proofs.concerning.add_linked.Goals as goal

pub loop-id-preserved : goal.loop-id-preserved
loop-id-preserved c =
    let stored = c.args.lookup.now.store.now.elements in
    let seen = c.args.lookup.now.shown.now in
    let step = c.in_ok-add_linked_to.ensures in
    record {
      kept = λ id there. step.kept id (c.loop-id.invariant.kept id there);
      linked = λ new within later. c.loop-id.invariant.linked new (λ id there. within id (step.kept id there))
          (subst (λ ids. HaveLinked stored seen ids new) (sym c.in-Some.ensures.steps)
          (linked-cons stored seen c.in-Some.id.now c.next.new.self c.add_linked_to.new.all new step.linked within
          later));
    }

pub returns-clause-linked : goal.returns-clause-linked
returns-clause-linked c =
    let stored = c.args.lookup.now.store.now.elements in
    let seen = c.args.lookup.now.shown.now in
    c.loop-id.invariant.linked c.loop-id.all (λ id there. there)
    (subst (λ ids. HaveLinked stored seen ids c.loop-id.all) (sym c.in-None.ensures.steps.0)
    (linked-none stored seen c.loop-id.all))
