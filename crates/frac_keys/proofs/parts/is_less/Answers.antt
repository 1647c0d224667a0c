use Rattle.frac_keys.proofs.PartLemmas.{bytes_less-lt}
use Rattle.frac_keys.proofs.parts.is_less.Goals as goal

pub returns : goal.returns
returns c = bytes_less-lt c.args.a.now c.args.b.now c.lt.result c.lt.ensures
