use Rattle.std.proofs.Common.{◌≡◌, true, sym, ◌∙◌, rules}
use Rattle.effects.specs.Changed.{OnFault, is_full, refusal_at}
use Rattle.effects.specs.inner.Prepared.{made_by}
use Rattle.effects.specs.declared.refusal.Refusal.{Refusal}
use Rattle.elem.specs.Facts.{greatest_whole}
use Rattle.effects.proofs.FirstLaws.{OnFault-weaker}
use Rattle.effects.proofs.WalkingLaws.{told-some, change_of-new, not-full, is-full}
use Rattle.effects.proofs.walking.change_of.Goals as goal

pub returns-in_err-stamped-clause-full : goal.returns-in_err-stamped-clause-full
returns-in_err-stamped-clause-full c =
    let e = c.args.e.now in
    let effect = c.args.effect.now in
    let some = told-some e (made_by effect e) c.in-Some.new (sym c.in-Some.is ∙ c.in_ok-new.ensures) in
    let told : OnFault c.in_err-stamped.field-0.0 (λ refusal. (is_full (made_by effect) e ≡ true)
    × (refusal ≡ refusal_at e)) =
    OnFault-weaker (λ (refusal : Refusal). (c.in-Some.new.version ≡ greatest_whole)
    × (refusal ≡ refusal_at c.in-Some.new)) (λ refusal. (is_full (made_by effect) e ≡ true)
    × (refusal ≡ refusal_at e)) c.in_err-stamped.field-0.0
    (λ refusal. is-full effect e (sym c.is_live.ensures ∙ c.if-not-is_live.false) some.0 c.in-Some.new refusal some.1)
    c.in_err-stamped.ensures.full in
    search (rules, told)

pub returns-clause-changed : goal.returns-clause-changed
returns-clause-changed c =
    let e = c.args.e.now in
    let effect = c.args.effect.now in
    let some = told-some e (made_by effect e) c.in-Some.new (sym c.in-Some.is ∙ c.in_ok-new.ensures) in
    change_of-new effect e (sym c.is_live.ensures ∙ c.if-not-is_live.false) some.0 c.args.stamp.time c.args.stamp.nonce
    c.in-Some.new c.in_ok-stamped.field-0 some.1 c.in_ok-stamped.ensures.stamped

pub returns-clause-free : goal.returns-clause-free
returns-clause-free c =
    let e = c.args.e.now in
    let effect = c.args.effect.now in
    let some = told-some e (made_by effect e) c.in-Some.new (sym c.in-Some.is ∙ c.in_ok-new.ensures) in
    not-full effect e (sym c.is_live.ensures ∙ c.if-not-is_live.false) some.0 c.in-Some.new some.1
    c.in_ok-stamped.ensures.free
