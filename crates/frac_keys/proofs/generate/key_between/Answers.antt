use Rattle.std.proofs.Common.{option_copied}
use Rattle.frac_keys.proofs.BetweenLaws.{key_between_is}
use Rattle.frac_keys.proofs.generate.key_between.Goals as goal

pub from_vec-requires : goal.from_vec-requires
from_vec-requires c = (key_between_is (option_copied c.args.a) (option_copied c.args.b) c.requires.a c.requires.b
    c.requires.rise c.in_ok-bytes.bytes.items c.in_ok-bytes.ensures).0

pub returns-clause-inside : goal.returns-clause-inside
returns-clause-inside c =
    rw c.from_vec.ensures (key_between_is (option_copied c.args.a) (option_copied c.args.b) c.requires.a c.requires.b
    c.requires.rise c.in_ok-bytes.bytes.items c.in_ok-bytes.ensures).1
