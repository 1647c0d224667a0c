use Rattle.std.proofs.Common.{◌≡◌, Some, Err, ap, ◌∙◌, find, rules}
use Rattle.std.specs.Option.{option_map, option_or}
use Rattle.elem.specs.ElementValue.{ElementValue}
use Rattle.effects.specs.declared.effect.Effect.{Effect}
use Rattle.effects.specs.Changed.{OnFault, outcome, is_full, refusal_at}
use Rattle.effects.specs.inner.Prepared.{made_by}
use Rattle.effects.specs.Refusals.{refusal_of, existing, missing, misfit, guarded}
use Rattle.effects.proofs.ChangedLaws.{changes-rise, created-distinct, new-apart, outcome-refused, outcome-full, outcome-ok, guarded-none}
use Rattle.effects.proofs.FindingLaws.{seen-distinct}
use Rattle.effects.proofs.FirstLaws.{OnFault-weaker}
use Rattle.effects.proofs.KeepingLaws.{Self, made_by-keeps}
use Rattle.effects.proofs.OutcomeLaws.{or-none}
use Rattle.effects.proofs.changing.changed.Goals as goal

made_by-id : (effect : Effect) (e : ElementValue) → (made_by effect e).id ≡ e.id
made_by-id effect e = ap (λ (s : Self). s.id) (made_by-keeps effect e)

pub returns-in_err-check-clause-refused : goal.returns-in_err-check-clause-refused
returns-in_err-check-clause-refused c =
    let stored = c.args.lookup.now.store.now.elements in
    let view = c.args.lookup.now.shown.now in
    let command = c.args.command.now in
    let told : OnFault c.in_err-check.field-0.0 (λ refusal. outcome stored view command c.args.stamp.time
    c.args.stamp.nonce
    ≡ Err refusal) =
    OnFault-weaker (λ refusal. refusal_of stored view command ≡ Some refusal)
    (λ refusal. outcome stored view command c.args.stamp.time c.args.stamp.nonce ≡ Err refusal) c.in_err-check.field-0.0
    (λ refusal. outcome-refused stored view command c.args.stamp.time c.args.stamp.nonce refusal)
    c.in_err-check.ensures.refused in
    search (rules, told)

pub prepared-requires-clause-open : goal.prepared-requires-clause-open
prepared-requires-clause-open c =
    let stored = c.args.lookup.now.store.now.elements in
    let view = c.args.lookup.now.shown.now in
    let command = c.args.command.now in
    guarded-none (existing stored command) (missing stored command) (misfit stored view command) (guarded command)
    c.in_ok-check.ensures.ok

pub prepared-requires-clause-live : goal.prepared-requires-clause-live
prepared-requires-clause-live c =
    let stored = c.args.lookup.now.store.now.elements in
    let view = c.args.lookup.now.shown.now in
    let command = c.args.command.now in
    let rest = option_or (misfit stored view command) (guarded command) in
    (or-none (missing stored command) rest (or-none (existing stored command) (option_or (missing stored command) rest)
    c.in_ok-check.ensures.ok).1).0

pub concerned-requires-clause-live : goal.concerned-requires-clause-live
concerned-requires-clause-live c = c.in_ok-effect.ensures.live

pub changes_of-requires-clause-ordered : goal.changes_of-requires-clause-ordered
changes_of-requires-clause-ordered c = c.requires.lookup.ordered

pub changes_of-requires-clause-sound : goal.changes_of-requires-clause-sound
changes_of-requires-clause-sound c = c.in_ok-effect.ensures.sound

pub returns-in_err-changed-clause-refused : goal.returns-in_err-changed-clause-refused
returns-in_err-changed-clause-refused c =
    let stored = c.args.lookup.now.store.now.elements in
    let view = c.args.lookup.now.shown.now in
    let command = c.args.command.now in
    let effect = c.in_ok-effect.effect in
    let told : OnFault c.in_err-changed.field-0.0 (λ refusal. outcome stored view command c.args.stamp.time
    c.args.stamp.nonce
    ≡ Err refusal) =
    OnFault-weaker (λ refusal. option_map refusal_at (find (is_full (made_by effect)) stored) ≡ Some refusal)
    (λ refusal. outcome stored view command c.args.stamp.time c.args.stamp.nonce ≡ Err refusal)
    c.in_err-changed.field-0.0
    (λ refusal. outcome-full stored view command c.args.stamp.time c.args.stamp.nonce effect refusal
    c.in_ok-check.ensures.ok
    c.in_ok-effect.ensures) c.in_err-changed.ensures.full in
    search (rules, told)

pub with_created-requires-clause-rise : goal.with_created-requires-clause-rise
with_created-requires-clause-rise c =
    let makes = made_by c.in_ok-effect.effect in
    rw c.in_ok-changed.ensures.changed
    (changes-rise c.args.lookup.now.store.now.elements c.args.lookup.now.shown.now c.args.command.now c.args.stamp.time
    c.args.stamp.nonce makes (made_by-id c.in_ok-effect.effect) c.requires.lookup.ordered)

pub with_created-requires-clause-distinct : goal.with_created-requires-clause-distinct
with_created-requires-clause-distinct c = rw c.in_ok-new.ensures
    (created-distinct c.args.lookup.now.shown.now c.args.command.now c.args.stamp.time c.args.stamp.nonce
    c.requires.limits
    (seen-distinct c.args.lookup.now c.requires.lookup))

pub with_created-requires-clause-apart : goal.with_created-requires-clause-apart
with_created-requires-clause-apart c =
    let stored = c.args.lookup.now.store.now.elements in
    let view = c.args.lookup.now.shown.now in
    let command = c.args.command.now in
    let free =
    (or-none (existing stored command)
    (option_or (missing stored command) (option_or (misfit stored view command) (guarded command)))
    c.in_ok-check.ensures.ok).0 in
    rw (c.in_ok-new.ensures, c.in_ok-changed.ensures.changed)
    (new-apart stored view command c.args.stamp.time c.args.stamp.nonce (made_by c.in_ok-effect.effect)
    (made_by-id c.in_ok-effect.effect) free)

pub returns-clause-exact : goal.returns-clause-exact
returns-clause-exact c =
    outcome-ok c.args.lookup.now.store.now.elements c.args.lookup.now.shown.now c.args.command.now c.args.stamp.time
    c.args.stamp.nonce c.in_ok-effect.effect c.in_ok-new.new c.in_ok-changed.changed.items c.from_vec.result
    c.in_ok-check.ensures.ok c.in_ok-effect.ensures c.in_ok-changed.ensures.none_full c.in_ok-changed.ensures.changed
    c.in_ok-new.ensures
    (c.from_vec.ensures ∙ c.in_ok-all.ensures)
