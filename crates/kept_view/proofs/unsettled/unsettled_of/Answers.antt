use Rattle.std.proofs.Common.{◌≡◌, ◌<◌, List, get_or, length, take_all, ap, ◌∙◌, subst, arith}
use Rattle.elem.specs.ElementValue.{ElementValue}
use Rattle.kept_view.proofs.UnsettledLaws.{AreWalked, all-walked, walked-more}
use Rattle.kept_view.proofs.unsettled.unsettled_of.Goals as goal

pub loop-e-init : goal.loop-e-init
loop-e-init c = record { whole = λ id f e is. cc; keyed = λ id f e is. cc }

pub loop-e-preserved : goal.loop-e-preserved
loop-e-preserved c =
    let i = c.loop-e.e-index in
    let drawn = c.args.shown.now.items in
    let e = c.e-item.result in
    let within : i < length drawn = omega (arith, c.loop-e-test.true, ap length c.deref-e-items.ensures.value) in
    let there : e ≡ get_or drawn i e =
    c.e-item.is ∙ ap (λ (xs : List ElementValue). get_or xs i e) c.deref-e-items.ensures.value in
    walked-more c.args.live.now.items drawn c.requires i e within there c.loop-e.unsettled c.walk.new.unsettled
    c.walk.ensures.kept (rw c.get.ensures at c.in_ok-walk.ensures.walked) c.loop-e.invariant

pub returns : goal.returns
returns c =
    all-walked c.args.live.now.items c.args.shown.now.items c.requires c.loop-e.unsettled
    (subst (AreWalked c.args.live.now.items c.loop-e.unsettled)
    (take_all c.loop-e.e-index c.args.shown.now.items (omega (arith, ap length c.deref-e-items.ensures.value)))
    c.loop-e.invariant)
