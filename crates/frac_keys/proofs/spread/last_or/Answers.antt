use Rattle.std.proofs.Common.{◌∙◌, Some, ap, sym, option_copied}
use Rattle.frac_keys.proofs.KeysLemmas.{last_or-get}
use Rattle.frac_keys.proofs.spread.last_or.Goals as goal

pub returns-in-Some-clause-value : goal.returns-in-Some-clause-value
returns-in-Some-clause-value c =
    let item = c.in-Some.ensures.item in
    rw c.as_bytes.ensures.value (ap (λ key. Some key) item.1
    ∙ sym (last_or-get (option_copied c.args.end) c.args.keys.now c.in-Some.key.now item.3.0))
