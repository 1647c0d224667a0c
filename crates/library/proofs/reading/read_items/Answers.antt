use Rattle.std.proofs.Common.{◌≡◌, ◌<◌, Err, length, get_or, take_all, ap, sym, subst, arith}
use Rattle.std.proofs.lemmas.Result.{err_from_is_err_and}
use Rattle.elem_read.proofs.CallerLemmas.{stop-same}
use Rattle.library.specs.Reading.{AreItemsIn}
use Rattle.library.proofs.ItemsReading.{faulty-next, read-more}
use Rattle.library.proofs.reading.read_items.Goals as goal

pub returns-in_err-item-clause-fault : goal.returns-in_err-item-clause-fault
returns-in_err-item-clause-fault c =
    let values = c.args.values.now in
    let i = c.loop-place.place in
    let v = c.value-item.result in
    let at : v ≡ get_or values i v = cc in
    let within : i < length values = omega (arith, ap length c.as_slice-value-items.ensures) in
    let p = err_from_is_err_and c.from_residual-in_err-item.result c.from_residual-in_err-item.ensures.1 in
    rw (p.1, p.2) (λ fault e.
    let told = c.in_err-item.ensures.fault fault (ap Err (stop-same _ _ _ e)) in
    (i, told.0, told.1, faulty-next values i v c.loop-place.items.items told.0 within at c.loop-place.invariant told.2))

pub loop-place-preserved : goal.loop-place-preserved
loop-place-preserved c =
    let values = c.args.values.now in
    let i = c.loop-place.place in
    let v = c.value-item.result in
    let at : v ≡ get_or values i v = cc in
    let within : i < length values = omega (arith, ap length c.as_slice-value-items.ensures) in
    read-more values i v c.loop-place.items.items c.push.new.self.items c.in_ok-item.item within at
    c.loop-place.invariant c.in_ok-item.ensures.read c.in_ok-push.ensures.items

pub returns-clause-read : goal.returns-clause-read
returns-clause-read c =
    let values = c.args.values.now in
    let all = take_all c.loop-place.place values (omega (arith, ap length c.as_slice-value-items.ensures)) in
    subst (AreItemsIn values) (sym c.from_vec.ensures) (subst (λ vs. AreItemsIn vs c.loop-place.items.items) all
    c.loop-place.invariant)
