use Rattle.std.proofs.Common.{sym, ap, ◌∙◌, arith}
use Rattle.elem.specs.ElementValue.{ElementValue}
use Rattle.index_repair.proofs.RisingKeys.{risen-none, risen-more, risen-not, risen-absent, risen-all, risen-keys}
use Rattle.index_repair.proofs.keyed.have_rising_keys.Goals as goal

pub loop-e-init : goal.loop-e-init
loop-e-init c = risen-none c.args.elements.now.items

pub returns-in_default-clause-not_rising : goal.returns-in_default-clause-not_rising
returns-in_default-clause-not_rising c _ = (rw (← c.deref-e-items.ensures.value)
    (risen-not c.deref-e-items.result.now _ c.loop-e.e-index c.e-item.result c.loop-e-test.true c.e-item.is
    (rw (← c.deref-e-items.ensures.value) at c.loop-e.invariant) _
    (ap (λ (e : ElementValue). e.index) (sym c.e.view_is) ∙ c.in-Some.is) (sym c.is_above.ensures.above
    ∙ c.if-is_above.false)))

pub returns-in_default-2-clause-not_rising : goal.returns-in_default-2-clause-not_rising
returns-in_default-2-clause-not_rising c _ = (rw (← c.deref-e-items.ensures.value)
    (risen-absent c.deref-e-items.result.now _ c.loop-e.e-index c.e-item.result c.loop-e-test.true c.e-item.is
    (rw (← c.deref-e-items.ensures.value) at c.loop-e.invariant)
    (ap (λ (e : ElementValue). e.index) (sym c.e.view_is) ∙ c.in_default.is)))

pub loop-e-preserved : goal.loop-e-preserved
loop-e-preserved c = (rw (← c.deref-e-items.ensures.value)
    (risen-more c.deref-e-items.result.now _ c.loop-e.e-index c.e-item.result c.loop-e-test.true c.e-item.is
    (rw (← c.deref-e-items.ensures.value) at c.loop-e.invariant) _
    (ap (λ (e : ElementValue). e.index) (sym c.e.view_is) ∙ c.in-Some.is) (sym c.is_above.ensures.above
    ∙ c.if-is_above.true) c.is_above.ensures.key))

pub returns-clause-rising : goal.returns-clause-rising
returns-clause-rising c _ =
    rw (← c.deref-e-items.ensures.value)
    (risen-all c.deref-e-items.result.now _ c.loop-e.e-index (omega (arith, c.loop-e-test.false))
    (rw (← c.deref-e-items.ensures.value) at c.loop-e.invariant))

pub returns-clause-keys : goal.returns-clause-keys
returns-clause-keys c _ =
    rw (← c.deref-e-items.ensures.value)
    (risen-keys c.deref-e-items.result.now _ c.loop-e.e-index (omega (arith, c.loop-e-test.false))
    (rw (← c.deref-e-items.ensures.value) at c.loop-e.invariant))
