use Rattle.std.proofs.Common.{◌≡◌, ◌<◌, length, append_assoc, append-nil, refl, arith}
use Rattle.std.proofs.lemmas.Bool.Decides.{nat_tests}
use Rattle.std.proofs.lemmas.List.{nil_from_length}
use Rattle.std.proofs.lemmas.Result.{IfOk-equal}
use Rattle.frac_keys.specs.Between.{midpoint}
use Rattle.frac_keys.proofs.MidpointLemmas.{midpoint_far, midpoint_last, midpoint_first}
use Rattle.frac_keys.proofs.midpoint.push_parted.Goals as goal

pub returns-in_default : goal.returns-in_default
unfolding midpoint
returns-in_default c = rw (nil_from_length c.args.b.now c.in_default.ensures.cases, append-nil) refl

pub returns-then-low-high : goal.returns-then-low-high
returns-then-low-high c =
    let far = midpoint_far c.args.a.now c.args.b.now c.in-Some.digit.now c.in-Some.rest.now c.first_digit-first.result
    c.digit_value-low.result c.digit_value-high.result
    c.in-Some.ensures.cases.0 c.requires.parted c.first_digit-first.ensures c.digit_value-low.ensures.value
    c.digit_value-high.ensures.value c.if-low-high.true in
    rw (c.in_ok-push.ensures.items, c.middle_digit.ensures, far) refl

pub returns-then-not-is_empty : goal.returns-then-not-is_empty
returns-then-not-is_empty c =
    let some : 0 < length c.in-Some.rest.now = grind (arith, nat_tests, c.if-not-is_empty.ensures) in
    let alone = midpoint_first c.args.a.now c.args.b.now c.in-Some.digit.now c.in-Some.rest.now
    c.first_digit-first.result c.digit_value-low.result c.digit_value-high.result
    c.in-Some.ensures.cases.0 c.requires.parted c.first_digit-first.ensures c.digit_value-low.ensures.value
    c.digit_value-high.ensures.value c.if-low-high.false some in
    rw (c.in_ok-push-2.ensures.items, alone) refl

pub returns : goal.returns
returns c =
    let none : length c.in-Some.rest.now ≡ 0 = grind (arith, nat_tests, c.if-not-is_empty.ensures) in
    let last = midpoint_last c.args.a.now c.args.b.now c.in-Some.digit.now c.in-Some.rest.now c.first_digit-first.result
    c.digit_value-low.result c.digit_value-high.result
    c.in-Some.ensures.cases.0 c.requires.parted c.first_digit-first.ensures c.digit_value-low.ensures.value
    c.digit_value-high.ensures.value c.if-low-high.false none in
    IfOk-equal c.push_midpoint_above.result _ _ _ c.push_midpoint_above.ensures
    (rw (c.in_ok-push-3.ensures.items, c.later_digits.ensures, last, append_assoc) refl)
