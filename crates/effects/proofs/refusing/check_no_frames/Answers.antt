-- None of the ids so far is a frame's, and then the next one is or isn't.
use Rattle.std.proofs.Common.{◌≡◌, ◌<◌, not, ap, ◌∙◌, length, get_or, sym, Some, arith, rules}
use Rattle.frames_groups.specs.Frames.{is_frame_kind}
use Rattle.effects.specs.declared.refusal.Refusal.TheVariants.{WrongKind}
use Rattle.effects.specs.Changed.{OnFault}
use Rattle.effects.specs.Refusals.{first_frame, is_kind_of, unless_right}
use Rattle.effects.proofs.FirstLaws.{OnFault-weaker, first-more, first-found, first-one}
use Rattle.effects.proofs.refusing.check_no_frames.Goals as goal

pub returns-in_err-check_right-clause-refused : goal.returns-in_err-check_right-clause-refused
returns-in_err-check_right-clause-refused c =
    let within : c.loop-id.id-index < length c.args.ids.now =
    omega (arith, c.loop-id-test.true, ap length c.as_slice-id-items.ensures) in
    let is : c.id-item.result ≡ get_or c.args.ids.now c.loop-id.id-index c.id-item.result =
    c.id-item.is ∙ ap (λ ids. get_or ids c.loop-id.id-index c.id-item.result) c.as_slice-id-items.ensures in
    let stored = c.args.store.now.elements in
    let test = is_kind_of stored is_frame_kind in
    let own =
    first-one test c.id-item.result ∙ ap (λ b. unless_right (not b) c.id-item.result) (sym c.is_frame_id.ensures) in
    let told : OnFault c.in_err-check_right.field-0.0 (λ refusal. first_frame stored c.args.ids.now ≡ Some refusal) =
    OnFault-weaker _ _ _ (λ refusal h. first-found test WrongKind c.args.ids.now c.loop-id.id-index c.id-item.result
    refusal within is c.loop-id.invariant (own ∙ h))
    c.in_err-check_right.ensures.refused in
    search (rules, told)

pub loop-id-preserved : goal.loop-id-preserved
loop-id-preserved c =
    let within : c.loop-id.id-index < length c.args.ids.now =
    omega (arith, c.loop-id-test.true, ap length c.as_slice-id-items.ensures) in
    let is : c.id-item.result ≡ get_or c.args.ids.now c.loop-id.id-index c.id-item.result =
    c.id-item.is ∙ ap (λ ids. get_or ids c.loop-id.id-index c.id-item.result) c.as_slice-id-items.ensures in
    let test = is_kind_of c.args.store.now.elements is_frame_kind in
    let own =
    first-one test c.id-item.result ∙ ap (λ b. unless_right (not b) c.id-item.result) (sym c.is_frame_id.ensures) in
    first-more test WrongKind c.args.ids.now c.loop-id.id-index c.id-item.result within is c.loop-id.invariant (own
    ∙ c.in_ok-check_right.ensures.ok)
