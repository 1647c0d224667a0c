use Rattle.std.proofs.Common.{◌≡◌, ◌<◌, Some, None, option_copied, length, get_or, take_all, ap, ◌∙◌, subst, sym, arith}
use Rattle.elem.specs.ElementValue.{ElementValue}
use Rattle.elem_store.specs.Updates.{element_of}
use Rattle.view.proofs.Originals.{AreOriginals, AreOriginals-none, are_as_stored, originals-same, originals-push}
use Rattle.view.proofs.view.originals_of.Goals as goal
use Rattle.view.proofs.view.originals_of.Goals.{in-Some+then-not-same+in_ok-try_clone+in_ok-push, in-Some+else-not-same, in_default}

pub loop-e-init : goal.loop-e-init
loop-e-init c = rw c.new-originals.ensures.items (AreOriginals-none c.args.store.now.elements)

pub loop-e-preserved : goal.loop-e-preserved
loop-e-preserved c =
    let stored = c.args.store.now.elements in
    let all = c.args.shown.now in
    let i = c.loop-e.e-index in
    let e = c.e-item.result in
    let within : i < length all = omega (arith, c.loop-e-test.true, ap length c.as_slice-e-items.ensures) in
    let there : e ≡ get_or all i e = c.e-item.is ∙ ap (λ es. get_or es i e) c.as_slice-e-items.ensures in
    let found : element_of stored e.id ≡ _ =
    ap (λ (d : ElementValue). element_of stored d.id) (sym c.e.view_is) ∙ sym c.stored_at.ensures in
    elim c.match-stored_at.branch [
      | in-Some+then-not-same+in_ok-try_clone+in_ok-push w ↦
          let here : element_of stored e.id ≡ Some w.in-Some.stored.now = found ∙ ap option_copied w.in-Some.is in
          rw (w.originals-is, w.in_ok-push.ensures.items, w.in_ok-try_clone.ensures)
          (originals-push stored all c.loop-e.originals.items i e within there c.loop-e.invariant w.in-Some.stored.now
          here)
      | in-Some+else-not-same w ↦
          let here : element_of stored e.id ≡ Some w.in-Some.stored.now = found ∙ ap option_copied w.in-Some.is in
          rw w.originals-is
          (originals-same stored all c.loop-e.originals.items i e within there c.loop-e.invariant
          (rw here (sym (w.same.ensures.0 w.if-not-same.false))))
      | in_default w ↦
          let here : element_of stored e.id ≡ None = found ∙ ap option_copied w.in_default.is in
          rw w.originals-is (originals-same stored all c.loop-e.originals.items i e within there c.loop-e.invariant
          (rw here tt))
    ]

pub returns : goal.returns
returns c =
    let stored = c.args.store.now.elements in
    let all = c.args.shown.now in
    let done =
    take_all c.loop-e.e-index all (omega (arith, c.loop-e-test.false, ap length c.as_slice-e-items.ensures)) in
    rw c.from_vec.ensures (are_as_stored stored all c.loop-e.originals.items
    (subst (λ es. AreOriginals stored es c.loop-e.originals.items) done c.loop-e.invariant))
