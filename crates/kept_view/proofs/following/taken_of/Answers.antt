use Rattle.std.proofs.Common.{◌≡◌, arith, subst}
use Rattle.elem.specs.ElementValue.{ElementValue}
use Rattle.elem_store.specs.Updates.{element_of}
use Rattle.kept_view.specs.inner.Replacing.{element_after}
use Rattle.kept_view.proofs.FollowingLaws.{taken-more}
use Rattle.kept_view.proofs.following.taken_of.Goals as goal

pub loop-e-preserved : goal.loop-e-preserved
loop-e-preserved c = record {
  ordered = c.in_ok-put_in.ensures.ordered;
  each = taken-more c.args.store.now.elements c.args.changed.now c.loop-e.e-index c.e-item.result
      c.begin_with.ensures.ordered (omega arith) c.e-item.is c.loop-e.news.elements c.begin_with.new.news.elements
      c.put_in.new.news.elements
      c.loop-e.invariant.each c.in_ok-begin_with.ensures.same
      (subst (λ (d : ElementValue). element_of c.begin_with.new.news.elements d.id
      ≡ element_after c.args.store.now.elements c.loop-e.news.elements d.id) c.e.view_is
      c.in_ok-begin_with.ensures.known) c.in_ok-put_in.ensures;
}
