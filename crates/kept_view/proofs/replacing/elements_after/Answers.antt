use Rattle.std.proofs.Common.{get_or, ap, ◌∙◌, arith}
use Rattle.kept_view.specs.inner.Replacing.{element_after}
use Rattle.kept_view.proofs.Picked.{found-more, none-more}
use Rattle.kept_view.proofs.replacing.elements_after.Goals as goal
use Rattle.kept_view.proofs.replacing.elements_after.Goals.{in-Some+in_ok-try_clone+in_ok-push, in_default}

pub loop-id-preserved : goal.loop-id-preserved
loop-id-preserved c =
    let g = element_after c.args.live.now.items c.args.news.now.items in
    elim c.match-element_after.branch [
      | in-Some+in_ok-try_clone+in_ok-push w ↦ rw w.found-is
          (found-more g c.args.ids.now.items c.loop-id.id-index c.id-item.result (omega arith) (c.id-item.is
          ∙ ap (λ x. get_or x c.loop-id.id-index c.id-item.result) c.deref-id-items.ensures.value)
          c.loop-id.found.items c.loop-id.invariant w.push.new.self.items w.in-Some.e.now w.in_ok-try_clone.field-0
          w.in-Some.ensures w.in_ok-try_clone.ensures w.in_ok-push.ensures.items)
      | in_default w ↦ rw w.found-is
          (none-more g c.args.ids.now.items c.loop-id.id-index c.id-item.result (omega arith) (c.id-item.is
          ∙ ap (λ x. get_or x c.loop-id.id-index c.id-item.result) c.deref-id-items.ensures.value)
          c.loop-id.found.items c.loop-id.invariant w.in_default.ensures)
    ]
