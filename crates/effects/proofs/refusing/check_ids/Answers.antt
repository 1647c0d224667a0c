-- None of the ids so far is missing, and then the next one is or isn't.
use Rattle.std.proofs.Common.{◌≡◌, ◌<◌, not, ap, ◌∙◌, length, get_or, Some, arith, rules}
use Rattle.effects.specs.declared.refusal.Refusal.TheVariants.{NoElement}
use Rattle.effects.specs.Changed.{OnFault}
use Rattle.effects.specs.Refusals.{first_missing, is_live_id}
use Rattle.effects.proofs.FirstLaws.{OnFault-weaker, first-more, first-found}
use Rattle.effects.proofs.refusing.check_ids.Goals as goal

pub returns-in_err-check_id-clause-refused : goal.returns-in_err-check_id-clause-refused
returns-in_err-check_id-clause-refused c =
    let within : c.loop-id.id-index < length c.args.ids.now =
    omega (arith, c.loop-id-test.true, ap length c.as_slice-id-items.ensures) in
    let is : c.id-item.result ≡ get_or c.args.ids.now c.loop-id.id-index c.id-item.result =
    c.id-item.is ∙ ap (λ ids. get_or ids c.loop-id.id-index c.id-item.result) c.as_slice-id-items.ensures in
    let stored = c.args.store.now.elements in
    let told : OnFault c.in_err-check_id.field-0.0 (λ refusal. first_missing stored c.args.ids.now ≡ Some refusal) =
    OnFault-weaker _ _ _ (λ refusal. first-found (λ id. not (is_live_id stored id)) NoElement c.args.ids.now
    c.loop-id.id-index c.id-item.result refusal within is c.loop-id.invariant)
    c.in_err-check_id.ensures.refused in
    search (rules, told)

pub loop-id-preserved : goal.loop-id-preserved
loop-id-preserved c =
    let within : c.loop-id.id-index < length c.args.ids.now =
    omega (arith, c.loop-id-test.true, ap length c.as_slice-id-items.ensures) in
    let is : c.id-item.result ≡ get_or c.args.ids.now c.loop-id.id-index c.id-item.result =
    c.id-item.is ∙ ap (λ ids. get_or ids c.loop-id.id-index c.id-item.result) c.as_slice-id-items.ensures in
    first-more (λ id. not (is_live_id c.args.store.now.elements id)) NoElement c.args.ids.now c.loop-id.id-index
    c.id-item.result within is c.loop-id.invariant c.in_ok-check_id.ensures.ok
