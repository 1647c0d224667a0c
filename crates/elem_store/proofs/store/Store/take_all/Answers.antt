use Rattle.std.proofs.Common.{◌≡◌, ◌++◌, [], length, ap, ◌∙◌, append_assoc, append-nil, arith}
use Rattle.std.proofs.lemmas.List.{nil_from_length}
use Rattle.elem_store.proofs.store.Store.take_all.Goals as goal

pub loop-e-preserved : goal.loop-e-preserved
loop-e-preserved c = record {
  stored = λ updates are. rw (← append_assoc) (c.in-Ok.ensures.stored _ (c.loop-e.invariant.stored updates are));
  parts = rw append_assoc (c.loop-e.invariant.parts ∙ ap (λ rest. c.loop-e.yielded ++ rest) c.in-Some.ensures.steps.0);
  room = omega (arith, ap length c.in-Some.ensures.steps.0, c.loop-e.invariant.room, c.in-Ok.ensures.spare);
}

pub returns : goal.returns
returns c updates are =
    let none : c.loop-e.e-iterator.rest.items ≡ [] = nil_from_length _ (omega (arith, c.in-None.ensures.steps)) in
    let all : c.args.elements ≡ c.loop-e.yielded =
    c.loop-e.invariant.parts ∙ ap (λ rest. c.loop-e.yielded ++ rest) none ∙ append-nil c.loop-e.yielded in
    rw all (c.loop-e.invariant.stored updates are)
