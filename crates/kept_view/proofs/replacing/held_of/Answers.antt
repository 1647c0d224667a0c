use Rattle.std.proofs.Common.{get_or, ap, ◌∙◌, arith}
use Rattle.elem.specs.ElementValue.{ElementValue}
use Rattle.elem_store.specs.Updates.{element_of}
use Rattle.kept_view.proofs.Picked.{found-more, none-more}
use Rattle.kept_view.proofs.replacing.held_of.Goals as goal
use Rattle.kept_view.proofs.replacing.held_of.Goals.{in-Some+in_ok-try_clone+in_ok-push, in_default}

pub loop-new-preserved : goal.loop-new-preserved
loop-new-preserved c =
    let g = λ (e : ElementValue). element_of c.args.live.now.items e.id in
    elim c.match-shared_of.branch [
      | in-Some+in_ok-try_clone+in_ok-push w ↦ rw w.held-is
          (found-more g c.args.news.now.items c.loop-new.new-index c.new-item.result (omega arith) (c.new-item.is
          ∙ ap (λ x. get_or x c.loop-new.new-index c.new-item.result) c.deref-new-items.ensures.value)
          c.loop-new.held.items c.loop-new.invariant w.push.new.self.items w.in-Some.e.now w.in_ok-try_clone.field-0
          (w.in-Some.ensures ∙ ap (element_of c.args.live.now.items) c.id.ensures) w.in_ok-try_clone.ensures
          w.in_ok-push.ensures.items)
      | in_default w ↦ rw w.held-is
          (none-more g c.args.news.now.items c.loop-new.new-index c.new-item.result (omega arith) (c.new-item.is
          ∙ ap (λ x. get_or x c.loop-new.new-index c.new-item.result) c.deref-new-items.ensures.value)
          c.loop-new.held.items c.loop-new.invariant (w.in_default.ensures
          ∙ ap (element_of c.args.live.now.items) c.id.ensures))
    ]
