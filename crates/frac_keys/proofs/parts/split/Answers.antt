use Rattle.frac_keys.proofs.KeyLaws.{IsCut-from}
use Rattle.frac_keys.proofs.parts.split.Goals as goal

pub bounds-key-0 : goal.bounds-key-0
bounds-key-0 c = (IsCut-from c.args.key.now c.requires).some

pub digit_count-requires : goal.digit_count-requires
digit_count-requires c = (IsCut-from c.args.key.now c.requires).head

pub split_at-requires : goal.split_at-requires
split_at-requires c = rw c.digit_count.ensures.value (IsCut-from c.args.key.now c.requires).long

pub returns-clause-integer : goal.returns-clause-integer
returns-clause-integer c =
    rw (c.split_at.ensures.front, c.digit_count.ensures.value) (IsCut-from c.args.key.now c.requires).integer_is

pub returns-clause-fraction : goal.returns-clause-fraction
returns-clause-fraction c =
    rw (c.split_at.ensures.back, c.digit_count.ensures.value) (IsCut-from c.args.key.now c.requires).fraction_is

pub returns-clause-is_integer : goal.returns-clause-is_integer
returns-clause-is_integer c = rw (
  c.split_at.ensures.front,
  c.digit_count.ensures.value,
  (IsCut-from c.args.key.now c.requires).integer_is,
) (IsCut-from c.args.key.now c.requires).is_integer_part

pub returns-clause-are_digits : goal.returns-clause-are_digits
returns-clause-are_digits c = rw (
  c.split_at.ensures.back,
  c.digit_count.ensures.value,
  (IsCut-from c.args.key.now c.requires).fraction_is,
) (IsCut-from c.args.key.now c.requires).digits
