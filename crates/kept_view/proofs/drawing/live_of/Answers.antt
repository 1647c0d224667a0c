use Rattle.std.proofs.Common.{take_all, sym, ap, ◌∙◌, arith}
use Rattle.view.specs.Shown.{live_elements}
use Rattle.view.proofs.CallerLemmas.{live_one, deleted_one}
use Rattle.elem_store.proofs.CallerLemmas.{within_stored}
use Rattle.kept_view.proofs.drawing.live_of.Goals as goal
use Rattle.kept_view.proofs.drawing.live_of.Goals.{in-Some+then-is_live+in_ok-try_clone+in_ok-push, in-Some+else-is_live, in_default}

pub loop-i-preserved : goal.loop-i-preserved
loop-i-preserved c =
    elim c.match-at.branch [
      | in-Some+then-is_live+in_ok-try_clone+in_ok-push w ↦ rw w.live-is
          (live_one c.args.store.now.elements c.loop-i.i w.in-Some.e.now w.in-Some.ensures.element c.loop-i.live.items
          w.push.new.self.items w.in_ok-try_clone.field-0
          (sym w.is_live.ensures ∙ w.if-is_live.true) c.loop-i.invariant w.in_ok-try_clone.ensures
          w.in_ok-push.ensures.items)
      | in-Some+else-is_live w ↦ rw w.live-is
          (deleted_one c.args.store.now.elements c.loop-i.i w.in-Some.e.now w.in-Some.ensures.element
          c.loop-i.live.items
          (sym w.is_live.ensures ∙ w.if-is_live.false) c.loop-i.invariant)
      | in_default w ↦ absurd (within_stored c.args.store.now.elements c.loop-i.i
          (omega (arith, c.len-i-end.ensures.exact)) w.in_default.ensures.element)
    ]

pub returns-clause-exact : goal.returns-clause-exact
returns-clause-exact c =
    c.loop-i.invariant
    ∙ ap live_elements (take_all c.loop-i.i c.args.store.now.elements (omega (arith, c.len-i-end.ensures.exact)))
