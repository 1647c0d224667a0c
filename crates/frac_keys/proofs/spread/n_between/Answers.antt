use Rattle.std.proofs.Common.{◌∙◌, IsTrue, option_copied}
use Rattle.frac_keys.specs.Rising.{is_key_or_none}
use Rattle.frac_keys.proofs.KeysLaws.{AreBetween, keys_between_are, lies_between-risen}
use Rattle.frac_keys.proofs.spread.n_between.Goals as goal

law : (c : goal.After-from_vec) → AreBetween (option_copied c.args.a) (option_copied c.args.b) c.args.n
    c.from_vec.result
law c =
    let a : IsTrue (is_key_or_none (option_copied c.args.a)) =
    rw c.end_bytes.ensures.value at c.end_bytes.ensures.end in
    let b : IsTrue (is_key_or_none (option_copied c.args.b)) =
    rw c.end_bytes-2.ensures.value at c.end_bytes-2.ensures.end in
    let keys = rw (c.end_bytes.ensures.value, c.end_bytes-2.ensures.value) at c.in_ok-keys.ensures in
    keys_between_are (option_copied c.args.a) (option_copied c.args.b) c.args.n a b c.requires c.from_vec.result
    (c.from_vec.ensures ∙ keys)

pub returns-clause-count : goal.returns-clause-count
returns-clause-count c = (law c).count

pub returns-clause-are_keys : goal.returns-clause-are_keys
returns-clause-are_keys c = (law c).are_keys

pub returns-clause-rise : goal.returns-clause-rise
returns-clause-rise c = (law c).rise

pub returns-clause-inside : goal.returns-clause-inside
returns-clause-inside c =
    lies_between-risen (option_copied c.args.a) (option_copied c.args.b) c.from_vec.result (law c).rise
