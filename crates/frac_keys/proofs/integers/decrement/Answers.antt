use Rattle.std.proofs.Common.{◌≡◌, ◌+◌, ◌-◌, refl, arith}
use Rattle.std.proofs.lemmas.List.{length-take-le}
use Rattle.frac_keys.specs.Keys.{digit_count}
use Rattle.frac_keys.specs.Between.{previous_digit, previous_head}
use Rattle.frac_keys.proofs.IntegerLemmas.{is_integer-some, stepped_at, stepped_head}
use Rattle.frac_keys.proofs.integers.decrement.Goals as goal

pub returns-in-Some : goal.returns-in-Some
returns-in-Some c =
    let i = c.args.integer.now in
    let at = c.in-Some.at in
    let front = length-take-le at i (omega (arith, c.in-Some.ensures.place.1)) in
    let is = stepped_at 48 122 previous_digit previous_head i at c.in-Some.ensures.place.0 c.in-Some.ensures.place.1
    c.in-Some.ensures.other c.in-Some.ensures.behind in
    rw (c.in_ok-below.ensures, c.digit_byte-previous.ensures, c.digit_value.ensures.value, front, is) refl

pub returns-in_default-previous_head : goal.returns-in_default-previous_head
returns-in_default-previous_head c =
    let i = c.args.integer.now in
    rw (
      stepped_head 48 122 previous_digit previous_head i (is_integer-some i c.requires) c.in_default.ensures.none,
      ← c.in_default-previous_head.ensures.value,
    ) refl

pub returns : goal.returns
returns c =
    let i = c.args.integer.now in
    let long : 1 + digit_count c.in-Some-previous_head.head - 0 - 1 ≡ digit_count c.in-Some-previous_head.head =
    omega arith in
    rw (
      stepped_head 48 122 previous_digit previous_head i (is_integer-some i c.requires) c.in_default.ensures.none,
      ← c.in-Some-previous_head.ensures.value,
      c.in_ok-below-2.ensures,
      c.digit_count.ensures.value,
      long,
    ) refl
