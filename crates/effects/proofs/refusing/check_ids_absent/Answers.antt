-- None of the ids so far is stored under the prefix, and then the next one is or isn't.
use Rattle.std.proofs.Common.{◌≡◌, ◌<◌, ap, ◌∙◌, length, get_or, Some, arith, rules}
use Rattle.effects.specs.Changed.{OnFault}
use Rattle.effects.specs.Refusals.{first_stored}
use Rattle.effects.proofs.StoredLaws.{stored-found, stored-more}
use Rattle.effects.proofs.refusing.check_ids_absent.Goals as goal

pub returns-in_err-check_absent-clause-refused : goal.returns-in_err-check_absent-clause-refused
returns-in_err-check_absent-clause-refused c =
    let stored = c.args.store.now.elements in
    let prefix = c.args.prefix.now in
    let ids = c.args.ids.now in
    let within : c.loop-id.id-index < length ids =
    omega (arith, c.loop-id-test.true, ap length c.as_slice-id-items.ensures) in
    let is : c.id-item.result ≡ get_or ids c.loop-id.id-index c.id-item.result =
    c.id-item.is ∙ ap (λ ids. get_or ids c.loop-id.id-index c.id-item.result) c.as_slice-id-items.ensures in
    let told : OnFault c.in_err-check_absent.field-0.0 (λ refusal. first_stored stored prefix ids ≡ Some refusal) =
    stored-found stored prefix ids c.loop-id.id-index c.id-item.result c.in_ok-prefixed.field-0
    c.in_err-check_absent.field-0.0 within is c.in_ok-prefixed.ensures c.loop-id.invariant
    c.in_err-check_absent.ensures.refused in
    search (rules, told)

pub loop-id-preserved : goal.loop-id-preserved
loop-id-preserved c =
    let ids = c.args.ids.now in
    let within : c.loop-id.id-index < length ids =
    omega (arith, c.loop-id-test.true, ap length c.as_slice-id-items.ensures) in
    let is : c.id-item.result ≡ get_or ids c.loop-id.id-index c.id-item.result =
    c.id-item.is ∙ ap (λ ids. get_or ids c.loop-id.id-index c.id-item.result) c.as_slice-id-items.ensures in
    stored-more c.args.store.now.elements c.args.prefix.now ids c.loop-id.id-index c.id-item.result
    c.in_ok-prefixed.field-0 within is c.in_ok-prefixed.ensures c.loop-id.invariant c.in_ok-check_absent.ensures.ok
