use Rattle.std.proofs.Common.{get_or, sym, ap, ◌∙◌, arith}
use Rattle.elem.specs.ElementValue.{ElementValue}
use Rattle.kept_view.specs.inner.Putting.{IsInPlace}
use Rattle.kept_view.proofs.PuttingLaws.{puts-push, placed-push, in-place}
use Rattle.kept_view.proofs.replacing.held_puts.Goals as goal

pub loop-e-preserved : goal.loop-e-preserved
loop-e-preserved c =
    let there = c.e-item.is ∙ ap (λ x. get_or x c.loop-e.e-index c.e-item.result) c.deref-e-items.ensures.value in
    let copy = c.in_ok-try_clone.ensures in
    record {
      are = rw c.in_ok-push.ensures.items
          (puts-push c.loop-e.puts.items _ c.args.news.now.items c.loop-e.e-index c.e-item.result (omega arith) there
          c.loop-e.invariant.are copy);
      placed = rw c.in_ok-push.ensures.items
          (placed-push (IsInPlace c.args.live.now.items) c.loop-e.puts.items _ c.loop-e.invariant.placed
          (in-place c.args.live.now.items c.in-Ok.at c.index.result.now c.id.result.now c.in_ok-try_clone.field-0
          c.in-Ok.ensures.found c.index.ensures
          (ap (λ (d : ElementValue). d.id) copy ∙ sym c.id.ensures)
          (ap (λ (d : ElementValue). d.index) (copy ∙ sym c.get-in-loop-e.ensures)
          ∙ sym (c.have_one_index.ensures c.if-not-have_one_index.false)
          ∙ ap (λ (d : ElementValue). d.index) c.get.ensures)));
    }
