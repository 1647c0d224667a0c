use Rattle.std.proofs.Common.{◌≤◌, All, arith, get_or, length, ap, subst, ◌∙◌, take_all}
use Rattle.kept_view.specs.inner.Reached.{StaysKind}
use Rattle.kept_view.proofs.Stepping.{kinds-more}
use Rattle.kept_view.proofs.reach.add_namers.Goals as goal

pub loop-e-preserved : goal.loop-e-preserved
loop-e-preserved c = record {
  kept = λ x h. c.in_ok-add_namers_of.ensures.kept x (c.loop-e.invariant.kept x h);
  namers = kinds-more c.args.board.live.now.items c.args.elements.now.items c.loop-e.e-index c.e-item.result
      c.loop-e.ids.list.items c.add_namers_of.new.ids.list.items
      (omega arith) (c.e-item.is ∙ ap (λ es. get_or es c.loop-e.e-index c.e-item.result) c.deref-e-items.ensures.value)
      c.loop-e.invariant.namers
      c.in_ok-add_namers_of.ensures.kept (rw c.get.ensures at c.in_ok-add_namers_of.ensures.namers);
}

pub returns-clause-namers : goal.returns-clause-namers
returns-clause-namers c =
    let all : length c.args.elements.now.items ≤ c.loop-e.e-index = omega arith in
    subst (All (StaysKind c.args.board.live.now.items c.loop-e.ids.list.items))
    (take_all c.loop-e.e-index c.args.elements.now.items all) c.loop-e.invariant.namers
