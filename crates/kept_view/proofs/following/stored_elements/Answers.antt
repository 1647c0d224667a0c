use Rattle.std.proofs.Common.{arith}
use Rattle.elem_store.proofs.CallerLemmas.{within_stored}
use Rattle.kept_view.proofs.CopyLaws.{stored-push}
use Rattle.kept_view.proofs.following.stored_elements.Goals as goal
use Rattle.kept_view.proofs.following.stored_elements.Goals.{in-Some+in_ok-try_clone+in_ok-push, in_default}

pub loop-i-preserved : goal.loop-i-preserved
loop-i-preserved c =
    elim c.match-at.branch [
      | in-Some+in_ok-try_clone+in_ok-push w ↦ rw w.copies-is
          (stored-push c.args.store.now.elements c.loop-i.i w.in-Some.e.now w.in-Some.ensures.element
          c.loop-i.copies.items w.push.new.self.items w.in_ok-try_clone.field-0
          c.loop-i.invariant w.in_ok-try_clone.ensures w.in_ok-push.ensures.items)
      | in_default w ↦ absurd (within_stored c.args.store.now.elements c.loop-i.i
          (omega (arith, c.len-i-end.ensures.exact)) w.in_default.ensures.element)
    ]
