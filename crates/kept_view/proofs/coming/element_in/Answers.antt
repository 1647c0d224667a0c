use Rattle.std.proofs.Common.{◌≡◌, suc, ◌+◌, None, Some, length, get_or, take, sym, ap, ◌∙◌, subst, arith}
use Rattle.elem_store.specs.Updates.{element_of}
use Rattle.kept_view.proofs.FoundLaws.{found-at, none-yet}
use Rattle.kept_view.proofs.coming.element_in.Goals as goal

pub returns-then-has_id : goal.returns-then-has_id
returns-then-has_id c =
    let e = c.e-item.result in
    ap Some c.in_ok-try_clone.ensures
    ∙ sym (found-at c.args.elements.now c.loop-e.e-index e c.args.id.now c.loop-e.invariant
    (omega (arith, c.loop-e-test.true, ap length c.as_slice-e-items.ensures))
    (c.e-item.is ∙ ap (λ es. get_or es c.loop-e.e-index e) c.as_slice-e-items.ensures) (sym c.has_id.ensures
    ∙ c.if-has_id.true))

pub loop-e-preserved : goal.loop-e-preserved
loop-e-preserved c =
    let e = c.e-item.result in
    let next : suc c.loop-e.e-index ≡ c.loop-e.e-index + 1 = omega arith in
    subst (λ n. element_of (take n c.args.elements.now) c.args.id.now ≡ None) next
    (none-yet c.args.elements.now c.loop-e.e-index e c.args.id.now c.loop-e.invariant
    (omega (arith, c.loop-e-test.true, ap length c.as_slice-e-items.ensures))
    (c.e-item.is ∙ ap (λ es. get_or es c.loop-e.e-index e) c.as_slice-e-items.ensures) (sym c.has_id.ensures
    ∙ c.if-has_id.false))
