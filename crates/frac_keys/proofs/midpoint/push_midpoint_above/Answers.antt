use Rattle.std.proofs.Common.{append_assoc, refl}
use Rattle.std.proofs.lemmas.List.{take_rest}
use Rattle.frac_keys.proofs.MidpointLemmas.{full}
use Rattle.frac_keys.proofs.midpoint.push_midpoint_above.Goals as goal

pub digit_value-low-requires : goal.digit_value-low-requires
digit_value-low-requires c =
    rw (c.first_digit.ensures, take_rest, c.full_len-full.ensures) (full c.args.a.now c.requires).digit

pub middle_digit-requires-clause-apart : goal.middle_digit-requires-clause-apart
middle_digit-requires-clause-apart c = rw (
  c.digit_value-low.ensures.value,
  c.first_digit.ensures,
  take_rest,
  c.full_len-full.ensures,
) (full c.args.a.now c.requires).under

pub returns : goal.returns
returns c =
    rw (
      c.in_ok-push.ensures.items,
      c.in_ok-extend_from_slice.ensures.items,
      c.middle_digit.ensures,
      c.digit_value-low.ensures.value,
      c.first_digit.ensures,
      take_rest,
      c.full_len-full.ensures,
      (full c.args.a.now c.requires).split,
      append_assoc,
    ) refl
