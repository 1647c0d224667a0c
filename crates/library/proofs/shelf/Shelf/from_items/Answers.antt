use Rattle.std.proofs.Common.{◌≡◌, ◌++◌, [], sym, ap, ◌∙◌, append_assoc, append-nil, arith}
use Rattle.std.proofs.lemmas.List.{nil_from_length}
use Rattle.library.proofs.BestLaws.{none_best}
use Rattle.library.proofs.shelf.Shelf.from_items.Goals as goal

pub loop-item-init : goal.loop-item-init
loop-item-init c = record {
  best = rw c.new-shelf.ensures none_best;
  parts = sym (c.into_iter-item-iterator.ensures.into_iter_gives.0 ∙ c.into_vec-item-items.ensures);
}

pub loop-item-preserved : goal.loop-item-preserved
loop-item-preserved c = record {
  best = c.in-Ok.ensures.best _ c.loop-item.invariant.best;
  parts = rw append_assoc (c.loop-item.invariant.parts
      ∙ ap (λ rest. c.loop-item.yielded ++ rest) c.in-Some.ensures.steps.0);
}

pub returns : goal.returns
returns c =
    let none : c.loop-item.item-iterator.rest.items ≡ [] = nil_from_length _ (omega (arith, c.in-None.ensures.steps)) in
    let all : c.args.items ≡ c.loop-item.yielded =
    c.loop-item.invariant.parts ∙ ap (λ rest. c.loop-item.yielded ++ rest) none ∙ append-nil c.loop-item.yielded in
    rw all c.loop-item.invariant.best
