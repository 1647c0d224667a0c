use Rattle.std.proofs.Common.{take_all, refl, sym, ap, ◌∙◌, arith}
use Rattle.std.proofs.lemmas.List.{map-append}
use Rattle.std.proofs.lemmas.List.Elements.{All-push}
use Rattle.elem_store.proofs.CallerLemmas.{within_stored}
use Rattle.view.specs.Shown.{live_elements}
use Rattle.view.specs.inner.Spots.{element_at, elements_of, IsSpotIn}
use Rattle.view.proofs.ShownLaws.{live_one, deleted_one}
use Rattle.view.proofs.view.live_of.Goals as goal
use Rattle.view.proofs.view.live_of.Goals.{in-Some+then-is_live+in_ok-push, in-Some+else-is_live, in_default}

pub loop-i-preserved : goal.loop-i-preserved
loop-i-preserved c =
    let stored = c.args.store.now.elements in
    elim c.match-at.branch [
      | in-Some+then-is_live+in_ok-push w ↦ record {
        exact = rw w.live-is
            (live_one stored c.loop-i.i w.in-Some.e.now w.in-Some.ensures.element (elements_of c.loop-i.live.items)
            (elements_of w.push.new.self.items) w.in-Some.e.now
            (sym w.is_live.ensures ∙ w.if-is_live.true) c.loop-i.invariant.exact refl
            (ap elements_of w.in_ok-push.ensures.items ∙ map-append element_at c.loop-i.live.items _));
        stored = rw (w.live-is, w.in_ok-push.ensures.items)
            (All-push (IsSpotIn stored) c.loop-i.live.items _ c.loop-i.invariant.stored
            (sym w.in-Some.ensures.element));
      }
      | in-Some+else-is_live w ↦ record {
        exact = rw w.live-is
            (deleted_one stored c.loop-i.i w.in-Some.e.now w.in-Some.ensures.element (elements_of c.loop-i.live.items)
            (sym w.is_live.ensures ∙ w.if-is_live.false) c.loop-i.invariant.exact);
        stored = rw w.live-is c.loop-i.invariant.stored;
      }
      | in_default w ↦ absurd (within_stored stored c.loop-i.i (omega (arith, c.len-i-end.ensures.exact))
          w.in_default.ensures.element)
    ]

pub returns-clause-exact : goal.returns-clause-exact
returns-clause-exact c =
    c.loop-i.invariant.exact
    ∙ ap live_elements (take_all c.loop-i.i c.args.store.now.elements (omega (arith, c.len-i-end.ensures.exact)))

pub returns-clause-ordered : goal.returns-clause-ordered
returns-clause-ordered c = c.len-i-end.ensures.ordered
