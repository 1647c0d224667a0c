use Rattle.std.proofs.Common.{◌≡◌, ◌<◌, length, get_or, ap, arith}
use Rattle.checks.proofs.JudgedLaws.{verdicts-more}
use Rattle.checks.proofs.judging.verdicts_of.Goals as goal

pub loop-place-preserved : goal.loop-place-preserved
loop-place-preserved c =
    let values = c.args.values.now in
    let i = c.loop-place.place in
    let value = c.value-item.result in
    let at : value ≡ get_or values i value = cc in
    let within : i < length values = omega (arith, ap length c.as_slice-value-items.ensures) in
    verdicts-more values i value c.loop-place.verdicts.items c.push.new.self.items c.in_ok-verdict_of.field-0 within at
    c.loop-place.invariant c.in_ok-verdict_of.ensures c.in_ok-push.ensures.items
