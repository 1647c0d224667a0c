-- Each is touched in its turn.
use Rattle.std.proofs.Common.{◌≡◌, ◌<◌, ◌+◌, ◌++◌, [], ◌∷◌, None, length, take, sym, ap, ◌∙◌, subst, arith}
use Rattle.std.proofs.lemmas.List.{take_more}
use Rattle.elem.specs.ElementValue.{ElementValue}
use Rattle.elem_store.specs.Updates.{element_of}
use Rattle.snapshot.specs.Touched.{HasTouched}
use Rattle.snapshot.specs.inner.Touched.{IsTouched, TouchesNoOther}
use Rattle.snapshot.proofs.TouchedLaws.{touched-none, touched-more, none-split, none-take}
use Rattle.snapshot.proofs.touched.touch_all.Goals as goal

pub loop-e-init : goal.loop-e-init
loop-e-init c = touched-none c.args.ids.now.keys

pub loop-e-preserved : goal.loop-e-preserved
loop-e-preserved c =
    let i = c.loop-e.e-index in
    let list = c.args.list.now in
    let e = c.e-item.result in
    let within : i < length list = omega arith in
    subst (λ es. HasTouched c.args.ids.now.keys es c.touch_id.new.ids.keys)
    (sym (take_more list i e within ∙ ap (λ x. take i list ++ x ∷ []) (sym c.e-item.is)))
    (touched-more c.args.ids.now.keys c.loop-e.ids.keys c.touch_id.new.ids.keys (take i list) e c.loop-e.invariant
    (subst (λ (x : ElementValue). IsTouched c.loop-e.ids.keys x.id c.touch_id.new.ids.keys) c.e.view_is
    c.in_ok-touch_id.ensures.touched))

pub returns-in_err-touch_id-clause-kept : goal.returns-in_err-touch_id-clause-kept
returns-in_err-touch_id-clause-kept c = λ id f. c.loop-e.invariant.still id (c.touch_id.ensures.kept id f)

pub returns-in_err-touch_id-clause-only : goal.returns-in_err-touch_id-clause-only
returns-in_err-touch_id-clause-only c = λ id f n.
    let i = c.loop-e.e-index in
    let list = c.args.list.now in
    let e = c.e-item.result in
    let within : i < length list = omega arith in
    let own =
    none-split (take i list) e id
    (subst (λ es. element_of es id ≡ None) (take_more list i e within
    ∙ ap (λ x. take i list ++ x ∷ []) (sym c.e-item.is)) (none-take (i + 1) list id n)) in
    subst (λ (x : ElementValue). TouchesNoOther c.loop-e.ids.keys x.id c.touch_id.new.ids.keys) c.e.view_is
    c.touch_id.ensures.only id
    (c.loop-e.invariant.only id f own.0) own.1

pub returns-clause-only : goal.returns-clause-only
returns-clause-only c = λ id f n. c.loop-e.invariant.only id f (none-take c.loop-e.e-index c.args.list.now id n)
