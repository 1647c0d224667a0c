use Rattle.std.proofs.lemmas.List.{take_rest}
use Rattle.frac_keys.specs.Digits.{is_key_digit}
use Rattle.frac_keys.proofs.PartLemmas.{list_all-parts}
use Rattle.frac_keys.proofs.midpoint.push_midpoint.Goals as goal

pub push_parted-requires-clause-low : goal.push_parted-requires-clause-low
push_parted-requires-clause-low c =
    rw take_rest (list_all-parts is_key_digit c.min.result c.args.a.now c.requires.low).1

pub push_parted-requires-clause-high : goal.push_parted-requires-clause-high
push_parted-requires-clause-high c =
    rw take_rest (list_all-parts is_key_digit c.shared_len-shared.result c.args.b.now c.requires.high).1
