use Rattle.std.proofs.Common.{◌≡◌, ◌∷◌, ◌++◌, [], List, sym, ap, subst, ◌∙◌, append_assoc, append-nil, arith}
use Rattle.std.proofs.lemmas.List.{nil_from_length}
use Rattle.library.specs.Best.{AreBest}
use Rattle.library.specs.declared.item.Item.{Item}
use Rattle.commands.proofs.taking.put_all.Goals as goal

pub loop-item-init : goal.loop-item-init
loop-item-init c = record {
  best = λ others are. subst (λ (items : List Item). AreBest items c.args.shelf.now) (sym (append-nil others)) are;
  parts = sym (c.into_iter-item-iterator.ensures.into_iter_gives.0 ∙ c.into_vec-item-items.ensures);
}

pub loop-item-preserved : goal.loop-item-preserved
loop-item-preserved c = record {
  best = λ others are. subst (λ (items : List Item). AreBest items c.put.new.shelf)
      (append_assoc others c.loop-item.yielded (c.in-Some.item ∷ []))
      (c.in_ok-put.ensures (others ++ c.loop-item.yielded) (c.loop-item.invariant.best others are));
  parts = rw append_assoc (c.loop-item.invariant.parts
      ∙ ap (λ rest. c.loop-item.yielded ++ rest) c.in-Some.ensures.steps.0);
}

pub returns : goal.returns
returns c =
    let none : c.loop-item.item-iterator.rest.items ≡ [] = nil_from_length _ (omega (arith, c.in-None.ensures.steps)) in
    let all : c.args.items ≡ c.loop-item.yielded =
    c.loop-item.invariant.parts ∙ ap (λ rest. c.loop-item.yielded ++ rest) none ∙ append-nil c.loop-item.yielded in
    rw all c.loop-item.invariant.best
